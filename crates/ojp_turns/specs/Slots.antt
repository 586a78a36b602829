-- What a search asked last at each number, and the bound on its asks.
use Rattle.std.specs.Prelude.{◌≡◌, ◌⊎◌, ℕ, zero, suc, ◌+◌, ◌-◌, ◌*◌, ◌≤◌, List, [], ◌∷◌, ◌++◌, map, length, slice_get, Option, Some, None}
use Rattle.ojp_values.specs.Lists.{Among}
use Rattle.ojp_values.specs.Texts.{Text, home}
use Rattle.ojp_values.specs.declared.asks.TripAsk.{TripAsk}
use Rattle.ojp_exchange.specs.Book.{Book, Spot}
use Rattle.ojp_exchange.specs.Places.{IsSpotAt}
use Rattle.ojp_records.specs.declared.queries.Query.{Query}
use Rattle.ojp_records.specs.declared.queries.Query.TheVariants.{Check, Reach}
use Rattle.ojp_records.specs.declared.queries.Entry.{Entry}
use Rattle.ojp_records.specs.Pairs.{pairs_from}
use Rattle.ojp_records.specs.Wanted.{wanted}
use Rattle.ojp_turns.specs.declared.asking.Asked.{Asked}
use Rattle.ojp_turns.specs.declared.kept.Kept.{Kept}
use Rattle.ojp_turns.specs.Held.{query_of, NotAmong}

-- the query is the check of the stop
abbrev pub IsCheckOf : Text → Query → Type 0
IsCheckOf stop query = (region : Text) × (home stop ≡ Some region) × (query ≡ Check region stop)

-- the query is of the origin's own pair
abbrev pub IsOwnReach : TripAsk → Query → Type 0
IsOwnReach ask query = (region : Text) × (start : ℕ) × (home ask.origin ≡ Some region) × (query ≡ Reach region ask.origin start)

-- the query is of the pair of the place
abbrev pub IsPlaceReach : Book → ℕ → Query → Type 0
IsPlaceReach book place query = (spot : Spot) × (start : ℕ) × IsSpotAt book place spot × (query ≡ Reach spot.region spot.stop start)

-- what may be asked at a number: the origin's check, the target's, the origin's own pair, or the pair of a place
pub data MayStandAt (book : Book) (ask : TripAsk) (number : ℕ) (query : Query) : Type 0 where
  at_origin : number ≡ 0 → IsCheckOf ask.origin query → MayStandAt book ask number query
  at_target : number ≡ 1 → IsCheckOf ask.target query → MayStandAt book ask number query
  at_own : number ≡ 2 → IsOwnReach ask query → MayStandAt book ask number query
  at_place : (place : ℕ) → number ≡ place + 3 → IsPlaceReach book place query → MayStandAt book ask number query

-- the query was wanted at some time
pub record WasWanted (book : Book) (ask : TripAsk) (told : List Entry) (query : Query) : Type 0 where
  pub before : List Entry
  pub since : List Entry
  pub split : before ++ since ≡ told
  pub wanted_then : Among query (wanted book ask before)

-- the query was asked last at the number
abbrev pub IsLastAt : List (Option Query) → ℕ → Query → Type 0
IsLastAt last number query = slice_get last number ≡ Some (Some query)

-- what is asked last at each number: each live query is at its number; each other query that was asked is not wanted any more
pub record AreAsked (book : Book) (ask : TripAsk) (told : List Entry) (subs : List Kept) (last : List (Option Query)) : Type 0 where
  pub count : length last ≡ length book.spots + 3
  pub each_live : (query : Query) → Among query (map query_of subs) → (number : ℕ) × IsLastAt last number query
  pub or_unwanted : (number : ℕ) (query : Query) → IsLastAt last number query → Among query (map query_of subs) ⊎ NotAmong query (wanted book ask told)
  pub stands : (number : ℕ) (query : Query) → IsLastAt last number query → MayStandAt book ask number query
  pub was : (number : ℕ) (query : Query) → IsLastAt last number query → WasWanted book ask told query

-- how many pairs a search has: those of the places, and the origin's own where its region is one of the book
unfoldable pub pair_count : Book → TripAsk → ℕ
pair_count book ask = length (pairs_from book ask.origin)

-- how often it may still be asked at the number where nothing was: a check once, a pair 86,401 times
unfoldable pub full_at : Book → TripAsk → ℕ → ℕ
full_at book ask zero = 1
full_at book ask (suc zero) = 1
full_at book ask (suc (suc zero)) = 86401 * (pair_count book ask - length book.spots)
full_at book ask (suc (suc (suc place))) = 86401

-- how often it may still be asked at the number, by what was asked last: a check no more, a pair at each earlier start
unfoldable pub left_at : Book → TripAsk → ℕ → Option Query → ℕ
left_at book ask number None = full_at book ask number
left_at book ask number (Some (Check region stop)) = 0
left_at book ask number (Some (Reach region stop start)) = start - ask.start

-- the same over all numbers from one on
unfoldable pub left_from : Book → TripAsk → ℕ → List (Option Query) → ℕ
left_from book ask number [] = 0
left_from book ask number (query ∷ last) = left_at book ask number query + left_from book ask (suc number) last

-- each of at most two checks is asked once, and each pair at most 86,401 times
abbrev pub most_asks : Book → TripAsk → ℕ
most_asks book ask = 2 + 86401 * pair_count book ask

-- the asks so far and those that may still be made are within the bound
abbrev pub IsWithinBound : Book → TripAsk → List (Option Query) → ℕ → Type 0
IsWithinBound book ask last asks = asks + left_from book ask 0 last ≤ most_asks book ask

-- nothing was asked at so many numbers
pub record IsNoneAsked (numbers : ℕ) (asked : Asked) : Type 0 where
  pub count : length asked.last.items ≡ numbers
  pub each : (number : ℕ) (query : Query) → IsLastAt asked.last.items number query → ⊥
  pub none : asked.count ≡ 0
