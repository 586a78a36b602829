use Rattle.std.proofs.Common.{ℕ, arith, subst}
use Rattle.ojp_calendars.specs.Marks.{Clears}
use Rattle.ojp_calendars.proofs.MarkFacts.{clears_one}
use Rattle.ojp_calendars.proofs.marks.clear.Goals as goal

pub loop-next-init : goal.loop-next-init
loop-next-init c = clears_one c.args.first c.args.left.now.items c.args.weekdays.now c.args.index (omega arith) c.requires.on

pub loop-next-preserved : goal.loop-next-preserved
loop-next-preserved c = c.clear_day-last.ensures c.args.left.now.items c.args.index c.loop-next.invariant

pub returns : goal.returns
returns c =
    subst (λ (n : ℕ). Clears c.args.first c.args.left.now.items c.loop-next.left.items c.args.weekdays.now c.args.index n c.loop-next.last) (omega arith) c.loop-next.invariant
