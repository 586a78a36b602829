use Rattle.std.proofs.Common.{arith}
use Rattle.ojp_feed_plans.proofs.FateFacts.{tally_more, tally_none, tally_total}
use Rattle.ojp_feed_plans.proofs.counts.tally_of.Goals as goal

pub loop-fate-init : goal.loop-fate-init
loop-fate-init c = tally_none

pub with_fate-tally-requires : goal.with_fate-tally-requires
with_fate-tally-requires c = omega (arith, tally_total c.args.fates.now c.loop-fate.fate-index c.loop-fate.tally (omega arith) c.loop-fate.invariant)

pub loop-fate-preserved : goal.loop-fate-preserved
loop-fate-preserved c = tally_more c.args.fates.now c.loop-fate.fate-index _ c.loop-fate.tally c.with_fate-tally.result c.loop-fate-test.true c.loop-fate.invariant c.with_fate-tally.ensures
