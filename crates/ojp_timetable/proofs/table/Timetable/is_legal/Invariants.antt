use Rattle.ojp_timetable.proofs.LegalFacts.{IsWalked}
use Rattle.ojp_timetable.proofs.table.Timetable.is_legal.Given as goal

abbrev pub invariant-legs : goal.invariant-legs
invariant-legs l = IsWalked l.self l.legs l.i
