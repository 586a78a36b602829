use Rattle.std.proofs.Common.{◌≡◌, ◌<◌, ◌≤◌, ℕ, Some, slice_get}
use Rattle.ojp_values.specs.declared.trips.Point.{Point}
use Rattle.ojp_exchange.specs.Disputes.{AllReturn}
use Rattle.ojp_exchange.specs.Points.{IsStretch}
use Rattle.ojp_exchange.proofs.joins.first_dispute.Given as goal

abbrev pub invariant-places : goal.invariant-places
invariant-places l =
    ((k : ℕ) (other : Point) → slice_get l.points k ≡ Some other → k < l.place → AllReturn l.codes l.points other)
    × (l.place ≤ l.to)
    × ((point : Point) → slice_get l.points l.place ≡ Some point → l.place < l.to → IsStretch l.points point.stop l.from l.to)
