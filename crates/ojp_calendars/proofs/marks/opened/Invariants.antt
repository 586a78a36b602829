use Rattle.std.proofs.Common.{◌≡◌, true, length}
use Rattle.ojp_calendars.specs.Marks.{on}
use Rattle.ojp_calendars.proofs.marks.opened.Given as goal

abbrev pub invariant-loop-next : goal.invariant-loop-next
invariant-loop-next l = record { own : on l.first l.weekdays l.index ≡ true; seven : length l.weekdays ≡ 7 }
