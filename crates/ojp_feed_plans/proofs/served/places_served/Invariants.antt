use Rattle.std.proofs.Common.{take}
use Rattle.ojp_feed_plans.specs.Served.{AreServed}
use Rattle.ojp_feed_plans.proofs.served.places_served.Given as goal

abbrev pub invariant-loop-pattern : goal.invariant-loop-pattern
invariant-loop-pattern l = AreServed (take l.pattern-index l.patterns) l.count l.marks.items
