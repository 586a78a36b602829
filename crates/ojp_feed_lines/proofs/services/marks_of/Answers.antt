use Rattle.std.proofs.Common.{◌∙◌, Some, get_or, subst, sym}
use Rattle.csv.specs.Records.{fields_of}
use Rattle.ojp_feed_lines.specs.Columns.{column_name}
use Rattle.ojp_feed_lines.specs.Rows.{IsPlace}
use Rattle.ojp_feed_lines.specs.declared.columns.Column.{Column}
use Rattle.ojp_feed_lines.proofs.CauseFacts.{bad_text}
use Rattle.ojp_feed_lines.proofs.Explained.{passed_is}
use Rattle.ojp_feed_lines.proofs.WeekdayFacts.{weekday_bad, weekday_checked, weekday_same}
use Rattle.ojp_feed_lines.specs.declared.columns.Column.TheVariants.{AgencyTimezone, Monday}
use Rattle.ojp_feed_lines.specs.declared.files.FeedFile.TheVariants.{Calendar}
use Rattle.ojp_feed_lines.specs.declared.services.TheConstants.{WEEKDAYS}
use Rattle.ojp_feed_lines.proofs.services.marks_of.Goals as goal

pub returns-in_err-marks-clause-why : goal.returns-in_err-marks-clause-why
returns-in_err-marks-clause-why g c =
    rw (passed_is c.from_residual.result c.in_err-marks.field-0.0 c.from_residual.ensures.1)
    (λ head above placed.
    bad_text Calendar (get_or WEEKDAYS c.loop-day.day AgencyTimezone) head above (fields_of c.args.table.now.row) (Some (get_or c.args.weekdays c.loop-day.day 0))
    c.field.result.now c.in_err-marks.field-0.0 (weekday_checked c.loop-day.day AgencyTimezone c.loop-day-test.true)
    (subst (λ (column : Column). IsPlace head (column_name column) (Some (get_or c.args.weekdays c.loop-day.day 0)))
    (weekday_same c.loop-day.day Monday AgencyTimezone c.loop-day-test.true) (placed c.loop-day.day c.loop-day-test.true)) c.field.ensures
    (weekday_bad c.loop-day.day AgencyTimezone c.field.result.now c.loop-day-test.true (sym c.read_flag-mark.ensures ∙ c.in_err-marks.ensures.why.0))
    c.in_err-marks.ensures.why.1)
