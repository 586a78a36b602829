use Rattle.std.proofs.Common.{◌≡◌, ◌<◌, ℕ, Some, slice_get}
use Rattle.ojp_values.specs.declared.replies.TripResult.{TripResult}
use Rattle.ojp_join.specs.Rides.{IsMet}
use Rattle.ojp_join.proofs.rides.first_met.Given as goal

abbrev pub invariant-found : goal.invariant-found
invariant-found l = (k : ℕ) (result : TripResult) → slice_get l.found k ≡ Some result → k < l.number → IsMet l.book l.need l.region result → ⊥
