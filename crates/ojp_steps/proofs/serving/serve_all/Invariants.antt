use Rattle.std.proofs.Common.{◌≡◌}
use Rattle.ojp_scan.specs.Scans.{IsMadeFor}
use Rattle.ojp_grammar.specs.Answering.{AnswersBody}
use Rattle.ojp_timetable.specs.Answers.{RegionAnswers}
use Rattle.ojp_steps.specs.Serving.{HasServed}
use Rattle.ojp_steps.proofs.serving.serve_all.Given as goal

abbrev pub invariant-serving : goal.invariant-serving
invariant-serving g l =
    IsMadeFor l.scan l.fn.table × HasServed (AnswersBody (RegionAnswers l.fn.table)) (g.D.Doors.seen l.fn.doors) (g.D.Doors.seen l.doors)
    × (g.D.Doors.faults l.doors ≡ g.D.Doors.faults l.fn.doors)
