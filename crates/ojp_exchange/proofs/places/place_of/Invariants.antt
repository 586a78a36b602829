use Rattle.std.proofs.Common.{◌-◌}
use Rattle.ojp_exchange.proofs.PlaceFacts.{AreHalved}
use Rattle.ojp_exchange.proofs.places.place_of.Given as goal

abbrev pub invariant-halves : goal.invariant-halves
invariant-halves l = AreHalved l.points l.stop l.region l.low l.high

abbrev pub decreases-halves : goal.decreases-halves
decreases-halves l = l.high - l.low
