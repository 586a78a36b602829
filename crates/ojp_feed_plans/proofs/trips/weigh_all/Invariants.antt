use Rattle.ojp_feed_plans.specs.Plans.{AreFirstWeighed}
use Rattle.ojp_feed_plans.proofs.trips.weigh_all.Given as goal

abbrev pub invariant-loop-number : goal.invariant-loop-number
invariant-loop-number l = AreFirstWeighed l.feed l.places l.fates.items l.patterns.items l.number
