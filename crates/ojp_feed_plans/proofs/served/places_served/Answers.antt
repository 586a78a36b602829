use Rattle.ojp_feed_plans.proofs.ServedFacts.{served_none}
use Rattle.ojp_feed_plans.proofs.served.places_served.Goals as goal

pub loop-pattern-init : goal.loop-pattern-init
loop-pattern-init c = served_none c.args.count c.in_ok-marks.marks.items c.in_ok-marks.ensures.long c.in_ok-marks.ensures.none
