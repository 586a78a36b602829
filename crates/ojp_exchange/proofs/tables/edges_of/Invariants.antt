use Rattle.std.proofs.Common.{◌≡◌, ◌<◌, ◌≤◌, Some, slice_get}
use Rattle.ojp_values.specs.declared.trips.Point.{Point}
use Rattle.ojp_exchange.specs.Points.{IsStretch}
use Rattle.ojp_exchange.specs.Tables.{AreChanges, AreParts}
use Rattle.ojp_exchange.proofs.tables.edges_of.Given as goal

abbrev pub invariant-places : goal.invariant-places
invariant-places l =
    AreParts (AreChanges l.points) l.edges.items l.firsts.items l.place × (l.place ≤ l.to) × ((point : Point) → slice_get l.points l.place ≡ Some point → l.place < l.to → IsStretch l.points point.stop l.from l.to)
