use Rattle.ojp_join.proofs.BackFacts.{AreAdded}
use Rattle.ojp_join.proofs.chains.legs_to.Given as goal

abbrev pub invariant-rides : goal.invariant-rides
invariant-rides l = AreAdded l.book l.ask l.told l.fn.end l.ride l.back.items

abbrev pub decreases-rides : goal.decreases-rides
decreases-rides l = l.ride.entry
