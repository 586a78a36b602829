use Rattle.ojp_calendars.specs.Marks.{Clears}
use Rattle.ojp_calendars.proofs.marks.clear.Given as goal

abbrev pub invariant-loop-next : goal.invariant-loop-next
invariant-loop-next l = Clears l.first l.fn.left.items l.left.items l.weekdays l.index l.next l.last
