-- How a search that wants nothing more ends.
use Rattle.std.proofs.Common.{◌≡◌, ℕ, List, Option, Some, None, IsSome, refl}
use Rattle.ojp_values.specs.Texts.{Text}
use Rattle.ojp_values.specs.declared.asks.TripAsk.{TripAsk}
use Rattle.ojp_exchange.specs.Book.{Book}
use Rattle.ojp_records.specs.declared.queries.Entry.{Entry}
use Rattle.ojp_records.specs.declared.places.PlaceState.{PlaceState}
use Rattle.ojp_records.specs.declared.places.PlaceState.TheVariants.{Unknown}
use Rattle.ojp_records.specs.Places.{checks_in, place_state}
use Rattle.ojp_records.specs.Starts.{best}
use Rattle.ojp_records.specs.Ends.{failed_checks, failed_pairs, fault, fault_by, least_text}

none_is_best : (origin target : Text) (at_origin at_target : PlaceState) (check pair : Option Text) (arrival : Option ℕ) → fault_by origin target at_origin at_target check pair arrival ≡ None → IsSome arrival
none_is_best origin target Unknown at_target check pair arrival e = absurd (cc)
none_is_best origin target at_origin Unknown check pair arrival e = absurd (cc)
none_is_best origin target at_origin at_target (Some region) pair arrival e = absurd (cc)
none_is_best origin target at_origin at_target None (Some region) arrival e = absurd (cc)
none_is_best origin target at_origin at_target None None (Some arrival) e = refl
none_is_best origin target at_origin at_target None None None e = absurd (cc)

-- where there is no fault, there is a best arrival
pub best_is_some : (book : Book) (ask : TripAsk) (told : List Entry) → fault book ask told ≡ None → IsSome (best book ask told)
unfolding fault
best_is_some book ask told e =
    none_is_best ask.origin ask.target (place_state book (checks_in told) ask.origin) (place_state book (checks_in told) ask.target) (least_text (failed_checks book ask told)) (least_text (failed_pairs book ask told)) (best book ask told) e
