use Rattle.std.proofs.Common.{◌≡◌, ◌<◌, ◌≤◌, ℕ, Some, true, slice_get}
use Rattle.ojp_values.specs.Texts.{same}
use Rattle.ojp_values.specs.declared.trips.Point.{Point}
use Rattle.ojp_exchange.proofs.places.count_through.Given as goal

abbrev pub invariant-points : goal.invariant-points
invariant-points l = (k : ℕ) (x : Point) → slice_get l.points k ≡ Some x → l.from ≤ k → k < l.i → same l.stop x.stop ≡ true
