use Rattle.std.proofs.Common.{Bool, List, arith, sym, subst}
use Rattle.ojp_calendars.specs.Marks.{Swept}
use Rattle.ojp_calendars.specs.declared.day_box.DayBox.{DayBox}
use Rattle.ojp_calendars.proofs.BoxFacts.{swept_all, swept_none}
use Rattle.ojp_calendars.proofs.day_sets.sweep.Goals as goal

pub loop-index-init : goal.loop-index-init
loop-index-init c =
    let first = c.args.first in
    let marks = c.args.marks.now in
    subst (λ (xs : List Bool). Swept first marks xs c.new-boxes.result.items 0) (sym c.in_ok-left.ensures.items)
    (subst (λ (bs : List DayBox). Swept first marks marks bs 0) (sym c.new-boxes.ensures.items) (swept_none first marks))

pub loop-index-preserved : goal.loop-index-preserved
loop-index-preserved c = c.in_ok-step.ensures c.args.marks.now c.loop-index.invariant

pub returns : goal.returns
returns c = swept_all c.args.first c.args.marks.now c.loop-index.left.items c.loop-index.boxes.items c.loop-index.index (omega arith) c.loop-index.invariant
