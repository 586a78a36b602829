-- What the cancelling and the asking of a turn do.
use Rattle.std.specs.Prelude.{◌≡◌, ◌⊎◌, ℕ, ◌<◌, Bool, true, false, List, [], ◌∷◌, ◌++◌, map, Option, None}
use Rattle.std.specs.List.{list_any}
use Rattle.ojp_values.specs.Lists.{Among, Each}
use Rattle.ojp_values.specs.declared.asks.TripAsk.{TripAsk}
use Rattle.ojp_exchange.specs.Book.{Book}
use Rattle.ojp_links.specs.Seen.{View}
use Rattle.ojp_links.specs.Calls.{Keeps, OthersStay}
use Rattle.ojp_records.specs.declared.queries.Query.{Query}
use Rattle.ojp_records.specs.declared.queries.Entry.{Entry}
use Rattle.ojp_records.specs.Records.{region_of, same_query}
use Rattle.ojp_records.specs.Wanted.{wanted}
use Rattle.ojp_turns.specs.declared.kept.Kept.{Kept}
use Rattle.ojp_turns.specs.Held.{key_of, query_of, NotAmong, StandsIn}
use Rattle.ojp_turns.specs.Faults.{FaultRose, HasCause}
use Rattle.ojp_turns.specs.Slots.{AreAsked, IsWithinBound}

-- the query stands among the queries
abbrev pub is_among : List Query → Query → Bool
is_among queries query = list_any (same_query query) queries

-- the subrequest's query is wanted
abbrev pub is_still_wanted : Book → TripAsk → List Entry → Kept → Bool
is_still_wanted book ask told kept = is_among (wanted book ask told) kept.query

-- the asks of these subrequests are as they were
abbrev pub StayLive : View → View → List Kept → Type 0
StayLive old new subs = (kept : Kept) → Among kept subs → new.live (key_of kept) ≡ old.live (key_of kept)

-- the first subrequest is wanted, and stands behind the others; or it is not, and was cancelled
abbrev pub FirstIs : Bool → Book → TripAsk → List Entry → View → View → Kept → List Kept → List Kept → Type 0
FirstIs true book ask told old new kept rest subs = (is_still_wanted book ask told kept ≡ false) × (subs ≡ rest) × OthersStay old new (key_of kept)
FirstIs false book ask told old new kept rest subs = (is_still_wanted book ask told kept ≡ true) × (subs ≡ rest ++ kept ∷ []) × (new ≡ old)

-- what became of the first of the subrequests
pub record FirstSifted (cancelled : Bool) (book : Book) (ask : TripAsk) (told : List Entry) (old new : View) (start subs : List Kept) : Type 0 where
  pub kept : Kept
  pub rest : List Kept
  pub is_first : start ≡ kept ∷ rest
  pub is : FirstIs cancelled book ask told old new kept rest subs

-- no subrequest was cancelled, and nothing else was done
pub record CancelsNone (old new : View) (start subs : List Kept) : Type 0 where
  pub same_links : new ≡ old
  pub same_subs : subs ≡ start

-- some subrequest was cancelled, whose query is wanted no more
abbrev pub CancelsSome : Book → TripAsk → List Entry → List Kept → Type 0
CancelsSome book ask told start = (kept : Kept) × Among kept start × NotAmong kept.query (wanted book ask told)

-- whether a subrequest was cancelled
abbrev pub Cancels : Bool → Book → TripAsk → List Entry → View → View → List Kept → List Kept → Type 0
Cancels true book ask told old new start subs = CancelsSome book ask told start
Cancels false book ask told old new start subs = CancelsNone old new start subs

-- each subrequest is wanted
abbrev pub AllWanted : Book → TripAsk → List Entry → List Kept → Type 0
AllWanted book ask told subs = (query : Query) → Among query (map query_of subs) → Among query (wanted book ask told)

-- the asked query is live, behind the others; or its region could not be asked, and its failure was told
abbrev pub IsAsked : View → View → List Kept → List Kept → List Entry → List Entry → Query → Type 0
IsAsked old new start subs before after query =
    ((kept : Kept) × (kept.query ≡ query) × (subs ≡ start ++ kept ∷ []) × (after ≡ before))
    ⊎ ((subs ≡ start) × (after ≡ before ++ record { query = query; reply = None } ∷ []) × FaultRose old new (region_of query))

-- the live subrequests and what was asked last agree, and the asks are within their bound
pub record IsAsking (book : Book) (ask : TripAsk) (told : List Entry) (subs : List Kept) (last : List (Option Query)) (asks : ℕ) (v : View) : Type 0 where
  pub stands : StandsIn book ask told subs v
  pub asked : AreAsked book ask told subs last
  pub bounded : IsWithinBound book ask last asks
  pub all_wanted : AllWanted book ask told subs

-- what asks do: nothing that was live changes, the record grows by failures with their causes, and nothing new is wanted
pub record AsksMore (book : Book) (ask : TripAsk) (old new : View) (start subs : List Kept) (before after : List Entry) : Type 0 where
  pub keeps : Keeps old new
  pub rejections : new.rejections ≡ old.rejections
  pub begun : List Kept
  pub grows : subs ≡ start ++ begun
  pub refused : List Entry
  pub tells : after ≡ before ++ refused
  pub failures : Each (λ (entry : Entry). entry.reply ≡ None) refused
  pub causes : Each (HasCause old new) refused
  pub same : StayLive old new start
  pub none_new : (query : Query) → Among query (wanted book ask after) → Among query (wanted book ask before)

-- nothing was asked, and nothing else was done
pub record AsksNone (old new : View) (start subs : List Kept) (before after : List Entry) : Type 0 where
  pub same_links : new ≡ old
  pub same_subs : subs ≡ start
  pub same_told : after ≡ before

-- whether something was asked
abbrev pub AsksSome : Bool → ℕ → ℕ → View → View → List Kept → List Kept → List Entry → List Entry → Type 0
AsksSome true asks now old new start subs before after = asks < now
AsksSome false asks now old new start subs before after = (now ≡ asks) × AsksNone old new start subs before after
