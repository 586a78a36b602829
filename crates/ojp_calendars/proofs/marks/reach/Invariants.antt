use Rattle.ojp_calendars.specs.Marks.{Reaches}
use Rattle.ojp_calendars.proofs.marks.reach.Given as goal

abbrev pub invariant-loop-next : goal.invariant-loop-next
invariant-loop-next l = Reaches l.first l.left l.weekdays l.index l.next
