use Rattle.std.proofs.Common.{◌-◌}
use Rattle.ojp_exchange.proofs.StretchFacts.{ArePartedBy}
use Rattle.ojp_exchange.proofs.places.count_before.Given as goal

abbrev pub invariant-halves : goal.invariant-halves
invariant-halves l = ArePartedBy l.points l.stop l.low l.high

abbrev pub decreases-halves : goal.decreases-halves
decreases-halves l = l.high - l.low
