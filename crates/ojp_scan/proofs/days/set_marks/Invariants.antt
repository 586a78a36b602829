use Rattle.ojp_scan.specs.Days.{AreMarks}
use Rattle.ojp_scan.proofs.days.set_marks.Given as goal

abbrev pub invariant-marks : goal.invariant-marks
invariant-marks l = AreMarks l.running.items l.table l.first l.index
