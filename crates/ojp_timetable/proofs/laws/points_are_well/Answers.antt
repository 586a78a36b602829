use Rattle.std.proofs.Common.{sym, subst}
use Rattle.ojp_timetable.specs.Tables.{Timetable}
use Rattle.ojp_timetable.specs.Points.{AreWellPoints}
use Rattle.ojp_timetable.specs.TableText.{lines_of}
use Rattle.ojp_timetable.proofs.PointsKept.{points_of_lines}
use Rattle.ojp_timetable.proofs.laws.points_are_well.Goals as goal

pub returns : goal.returns
returns c bytes table text = subst (λ (t : Timetable). AreWellPoints t.region t.points) (sym text.makes) (points_of_lines (lines_of bytes))
