-- The wanted queries, in order, as a function of the record.
use Rattle.std.specs.Prelude.{◌≡◌, ℕ, ◌+◌, Bool, true, false, not, ◌&&◌, List, [], ◌∷◌, ◌++◌, find, Option, Some, None, nat_lt, nat_le, if◌then◌else◌}
use Rattle.std.specs.List.{filter_map, list_any}
use Rattle.ojp_values.specs.Lists.{Among, Each, least}
use Rattle.ojp_values.specs.Texts.{Text}
use Rattle.ojp_values.specs.declared.asks.TripAsk.{TripAsk}
use Rattle.ojp_timetable.specs.Runs.{day_long, last_moment}
use Rattle.ojp_exchange.specs.Book.{Book}
use Rattle.ojp_records.specs.declared.queries.Query.{Query}
use Rattle.ojp_records.specs.declared.queries.Query.TheVariants.{Reach}
use Rattle.ojp_records.specs.declared.queries.Entry.{Entry}
use Rattle.ojp_records.specs.Records.{same_query, is_told}
use Rattle.ojp_records.specs.Places.{checks_in, place_state, check, wanted_by_places}
use Rattle.ojp_records.specs.Pairs.{Pair, pair_lt, pairs_from, ends_towards}
use Rattle.ojp_records.specs.Starts.{known_starts, best}

-- the start is before the best arrival; before any is heard, every start is
abbrev pub is_before : ℕ → Option ℕ → Bool
is_before start None = true
is_before start (Some arrival) = nat_lt start arrival

-- a start that can still lead to a better arrival: it is before the best one, not after the requested day and
-- not after the last moment
abbrev pub can_improve : TripAsk → Option ℕ → ℕ → Bool
can_improve ask arrival start = is_before start arrival && (nat_le start (ask.start + day_long) && nat_le start last_moment)

-- the least known start, where there are targets and the start can improve
abbrev pub improving : TripAsk → Option ℕ → List Text → Option ℕ → Option ℕ
improving ask arrival [] start = None
improving ask arrival (target ∷ more) None = None
improving ask arrival (target ∷ more) (Some start) = if can_improve ask arrival start then Some start else None

-- the start at which the pair can improve: its least known start, where it has a target and the start can improve
unfoldable pub improving_start : Book → TripAsk → List Entry → Pair → Option ℕ
improving_start book ask told pair =
    improving ask (best book ask told) (ends_towards book ask.target pair.stop pair.region) (least (known_starts book ask told pair.stop pair.region))

-- the query of the pair at the start
abbrev pub reach_at : Pair → ℕ → Query
reach_at pair start = Reach pair.region pair.stop start

-- what is wanted of the pair: the query at the start at which it can improve, unless it was told
abbrev pub wanted_at : List Entry → Pair → Option ℕ → Option Query
wanted_at told pair None = None
wanted_at told pair (Some start) = if is_told told (reach_at pair start) then None else Some (reach_at pair start)

-- what is wanted of the pairs, in their order
unfoldable pub wanted_pairs : Book → TripAsk → List Entry → List Query
wanted_pairs book ask told = filter_map (λ pair. wanted_at told pair (improving_start book ask told pair)) (pairs_from book ask.origin)

-- the pair can improve at the start: it has a target, this is its least known start, and the start can improve
pub record Improves (book : Book) (ask : TripAsk) (told : List Entry) (pair : Pair) (start : ℕ) : Type 0 where
  pub target : Text
  pub has_target : Among target (ends_towards book ask.target pair.stop pair.region)
  pub is_least : least (known_starts book ask told pair.stop pair.region) ≡ Some start
  pub can : can_improve ask (best book ask told) start ≡ true

-- the query is that of a pair at the start at which the pair can improve, and it was not told
pub record PairWanted (book : Book) (ask : TripAsk) (told : List Entry) (query : Query) : Type 0 where
  pub pair : Pair
  pub start : ℕ
  pub listed : Among pair (pairs_from book ask.origin)
  pub is : query ≡ reach_at pair start
  pub improves : Improves book ask told pair start
  pub untold : is_told told query ≡ false

-- queries of pairs are ordered by stop and region
abbrev pub reach_lt : Query → Query → Bool
reach_lt (Reach region stop start) (Reach other_region other_stop other_start) = pair_lt (record { stop = stop; region = region }) (record { stop = other_stop; region = other_region })
reach_lt query other = false

-- the wanted queries, in order
unfoldable pub wanted : Book → TripAsk → List Entry → List Query
wanted book ask told =
    wanted_by_places (check ask.origin) (check ask.target) (wanted_pairs book ask told) (place_state book (checks_in told) ask.origin) (place_state book (checks_in told) ask.target)

-- the query is one of the live ones
abbrev pub is_live : List Query → Query → Bool
is_live live query = list_any (λ (other : Query). same_query other query) live

-- the first of the queries that is not live
abbrev pub next_of : List Query → List Query → Option Query
next_of queries live = find (λ (query : Query). not (is_live live query)) queries

-- the query stands in the list, is not live, and all before it are
pub record IsFirstNew (queries live : List Query) (query : Query) : Type 0 where
  pub before : List Query
  pub rest : List Query
  pub split : queries ≡ before ++ query ∷ rest
  pub all_live : Each (λ (other : Query). Among other live) before
  pub not_live : Among query live → ⊥

-- it is the first that is not live, or there is none and all are
abbrev pub IsNext : List Query → List Query → Option Query → Type 0
IsNext queries live None = Each (λ (query : Query). Among query live) queries
IsNext queries live (Some query) = IsFirstNew queries live query
