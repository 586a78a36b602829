use Rattle.std.proofs.Common.{◌<◌, length, sym, subst, arith}
use Rattle.ojp_timetable.specs.Contents.{Contents}
use Rattle.ojp_timetable.specs.Lines.{Above}
use Rattle.ojp_timetable.specs.Points.{AreWellPoints}
use Rattle.ojp_timetable.specs.TableText.{lines_of}
use Rattle.ojp_timetable.specs.WellContents.{AreWholeBut, IsWellContents}
use Rattle.ojp_timetable.specs.declared.file.lines.Open.TheVariants.{Nothing}
use Rattle.ojp_timetable.proofs.WellFacts.{closed_whole}
use Rattle.ojp_timetable.proofs.PointsKept.{points_of_lines}
use Rattle.ojp_timetable.proofs.table.Timetable.read.Goals as goal

pub invariant_of-result : goal.invariant_of-result
invariant_of-result c =
    let same = sym c.into_draft-draft.ensures.value in
    let named : 0 < length c.read_lines.new.above.contents.region = c.into_draft-draft.ensures.named (omega (arith, c.in_ok-read_lines.ensures.head)) in
    let well : IsWellContents c.read_lines.new.above.contents = c.into_draft-draft.ensures.well in
    let whole : AreWholeBut Nothing c.read_lines.new.above.contents.journeys =
    closed_whole c.read_lines.new.above.left _ c.in_ok-read_lines.ensures.closed c.into_draft-draft.ensures.whole in
    let points = subst (λ (above : Above). AreWellPoints above.contents.region above.contents.points) (sym c.in_ok-read_lines.ensures.made) (points_of_lines (lines_of c.args.bytes.now)) in
    record {
      named = subst (λ (contents : Contents). 0 < length contents.region) same named;
      days = c.in-Ok.ensures.days;
      near = c.in-Ok.ensures.near;
      well = subst IsWellContents same well;
      whole = subst (λ (contents : Contents). AreWholeBut Nothing contents.journeys) same whole;
      points = subst (λ (contents : Contents). AreWellPoints contents.region contents.points) same points;
    }
