use Rattle.std.proofs.Common.{ℕ, ◌∙◌, arith, subst}
use Rattle.ojp_calendars.specs.Marks.{Reaches}
use Rattle.ojp_calendars.proofs.MarkFacts.{reaches_more, reaches_one}
use Rattle.ojp_calendars.proofs.marks.reach.Goals as goal

pub loop-next-init : goal.loop-next-init
loop-next-init c = reaches_one c.args.first c.args.left.now c.args.weekdays.now c.args.index c.requires.inside c.requires.left

pub loop-next-preserved : goal.loop-next-preserved
loop-next-preserved c =
    reaches_more c.args.first c.args.left.now c.args.weekdays.now c.args.index c.loop-next.next c.loop-next.invariant (omega arith)
    (λ on. c.ends.ensures c.if-ends.false (c.is_on-is_on.ensures ∙ on))

pub returns : goal.returns
returns c = subst (λ (n : ℕ). Reaches c.args.first c.args.left.now c.args.weekdays.now c.args.index n) (omega arith) c.loop-next.invariant
