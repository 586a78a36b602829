use Rattle.std.proofs.Common.{◌≡◌, ◌<◌, ℕ, Some, slice_get}
use Rattle.ojp_values.specs.declared.trips.Neighbour.{Neighbour}
use Rattle.ojp_exchange.specs.Disputes.{Returns}
use Rattle.ojp_exchange.proofs.joins.first_lacking.Given as goal

abbrev pub invariant-neighbours : goal.invariant-neighbours
invariant-neighbours l = (k : ℕ) (other : Neighbour) → slice_get l.point.neighbours k ≡ Some other → k < l.neighbour-index → Returns l.codes l.points l.point other
