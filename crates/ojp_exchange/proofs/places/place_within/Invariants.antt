use Rattle.std.proofs.Common.{◌≡◌, ◌<◌, ◌≤◌, ℕ, Some, slice_get}
use Rattle.ojp_values.specs.declared.trips.Point.{Point}
use Rattle.ojp_exchange.proofs.places.place_within.Given as goal

abbrev pub invariant-points : goal.invariant-points
invariant-points l = (k : ℕ) (x : Point) → slice_get l.points k ≡ Some x → l.from ≤ k → k < l.place → x.region ≡ l.region → ⊥
