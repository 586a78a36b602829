use Rattle.ojp_feed_plans.proofs.RefusalFacts.{AreSeen}
use Rattle.ojp_feed_plans.proofs.journeys.labels_apart.Given as goal

abbrev pub invariant-loop-journey : goal.invariant-loop-journey
invariant-loop-journey l = AreSeen l.journeys l.journey-index l.seen
