use Rattle.std.proofs.Common.{take}
use Rattle.ojp_feed_plans.specs.Labels.{AreKeys}
use Rattle.ojp_feed_plans.proofs.journeys.labels_seen.Given as goal

abbrev pub invariant-loop-number : goal.invariant-loop-number
invariant-loop-number l = AreKeys (take l.number l.labels) l.seen
