use Rattle.ojp_calendars.specs.Marks.{Swept}
use Rattle.ojp_calendars.proofs.day_sets.sweep.Given as goal

abbrev pub invariant-loop-index : goal.invariant-loop-index
invariant-loop-index l = Swept l.first l.marks l.left.items l.boxes.items l.index
