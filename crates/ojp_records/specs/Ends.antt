-- The end of a search: which failures stand, and the fault or the trip that it ends with.
use Rattle.std.specs.Prelude.{◌≡◌, ℕ, ◌⊎◌, true, List, [], ◌∷◌, ◌++◌, Option, Some, None, if◌then◌else◌}
use Rattle.std.specs.List.{filter_map}
use Rattle.ojp_values.specs.Lists.{least}
use Rattle.ojp_values.specs.Texts.{Text, text_lt, home}
use Rattle.ojp_values.specs.declared.asks.TripAsk.{TripAsk}
use Rattle.ojp_values.specs.declared.replies.Fault.{Fault}
use Rattle.ojp_values.specs.declared.replies.Fault.TheVariants.{StopUnknown, NoTrip, RegionFailed}
use Rattle.ojp_exchange.specs.Book.{Book}
use Rattle.ojp_records.specs.declared.queries.Query.TheVariants.{Check, Reach}
use Rattle.ojp_records.specs.declared.queries.Entry.{Entry}
use Rattle.ojp_records.specs.Records.{is_failed, Failed}
use Rattle.ojp_records.specs.Starts.{known_starts, best}
use Rattle.ojp_records.specs.Wanted.{can_improve, improving_start, reach_at}
use Rattle.ojp_records.specs.Pairs.{Pair, pairs_from}
use Rattle.ojp_records.specs.Places.{PlaceState, Unknown, CheckFailed, place_state, checks_in}

-- the region with the code, where its check failed
abbrev pub failed_check : PlaceState → Option Text → List Text
failed_check CheckFailed (Some code) = code ∷ []
failed_check state code = []

-- the regions whose place check failed
unfoldable pub failed_checks : Book → TripAsk → List Entry → List Text
failed_checks book ask told =
    failed_check (place_state book (checks_in told) ask.origin) (home ask.origin) ++ failed_check (place_state book (checks_in told) ask.target) (home ask.target)

-- the pair's region, if the pair failed at this start
abbrev pub failed_at : List Entry → Pair → Option ℕ → Option Text
failed_at told pair None = None
failed_at told pair (Some start) = if is_failed told (reach_at pair start) then Some pair.region else None

-- the regions of the pairs that failed at the start at which they can improve
unfoldable pub failed_pairs : Book → TripAsk → List Entry → List Text
failed_pairs book ask told = filter_map (λ pair. failed_at told pair (improving_start book ask told pair)) (pairs_from book ask.origin)

-- the lesser of the texts, where there is another one
abbrev pub lesser_text : Text → Option Text → Text
lesser_text x None = x
lesser_text x (Some y) = if text_lt y x then y else x

-- the least of the texts, if there is one
abbrev pub least_text : List Text → Option Text
least_text [] = None
least_text (x ∷ xs) = Some (lesser_text x (least_text xs))

-- the first that applies: the origin is unknown, the target is unknown, a place check failed, a pair failed, there is
-- an arrival, and else no trip
abbrev pub fault_by : Text → Text → PlaceState → PlaceState → Option Text → Option Text → Option ℕ → Option Fault
fault_by origin target Unknown at_target check pair arrival = Some (StopUnknown origin)
fault_by origin target at_origin Unknown check pair arrival = Some (StopUnknown target)
fault_by origin target at_origin at_target (Some region) pair arrival = Some (RegionFailed region)
fault_by origin target at_origin at_target None (Some region) arrival = Some (RegionFailed region)
fault_by origin target at_origin at_target None None (Some arrival) = None
fault_by origin target at_origin at_target None None None = Some (NoTrip target)

-- the fault that a search ends with where nothing is wanted any more; none where a trip is the answer
unfoldable pub fault : Book → TripAsk → List Entry → Option Fault
fault book ask told =
    fault_by ask.origin ask.target (place_state book (checks_in told) ask.origin) (place_state book (checks_in told) ask.target) (least_text (failed_checks book ask told)) (least_text (failed_pairs book ask told)) (best book ask told)

-- the place check of the stop failed, which the region was asked
abbrev pub PlaceFailed : List Entry → Text → Text → Type 0
PlaceFailed told stop region = (home stop ≡ Some region) × Failed told (Check region stop)

-- a pair of the region failed at its least known start, which can still improve
pub record PairFailed (book : Book) (ask : TripAsk) (told : List Entry) (region : Text) : Type 0 where
  pub stop : Text
  pub start : ℕ
  pub is_least : least (known_starts book ask told stop region) ≡ Some start
  pub can : can_improve ask (best book ask told) start ≡ true
  pub failed : Failed told (Reach region stop start)

-- a failure of the region stands
abbrev pub FailureStands : Book → TripAsk → List Entry → Text → Type 0
FailureStands book ask told region = (PlaceFailed told ask.origin region ⊎ PlaceFailed told ask.target region) ⊎ PairFailed book ask told region
