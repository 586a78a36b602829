use Rattle.std.proofs.Common.{◌≡◌, ◌<◌, ℕ, Some, slice_get}
use Rattle.ojp_values.specs.declared.trips.Neighbour.{Neighbour}
use Rattle.ojp_exchange.proofs.places.change_among.Given as goal

abbrev pub invariant-neighbours : goal.invariant-neighbours
invariant-neighbours l = (k : ℕ) (x : Neighbour) → slice_get l.neighbours k ≡ Some x → k < l.neighbour-index → x.code ≡ l.code → ⊥
