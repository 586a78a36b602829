use Rattle.std.proofs.Common.{◌∙◌}
use Rattle.std.proofs.lemmas.List.{length-set}
use Rattle.csv.specs.Records.{fields_of}
use Rattle.ojp_feed_lines.proofs.Explained.{passed_is}
use Rattle.ojp_feed_lines.proofs.WeekdayFacts.{places_more, weekday_needed}
use Rattle.ojp_feed_lines.specs.declared.files.FeedFile.TheVariants.{Calendar}
use Rattle.ojp_feed_lines.proofs.services.weekday_columns.Goals as goal

pub returns-in_err-weekdays-clause-why : goal.returns-in_err-weekdays-clause-why
returns-in_err-weekdays-clause-why g c =
    rw (passed_is c.from_residual.result c.in_err-weekdays.field-0.0 c.from_residual.ensures.1)
    (c.in_err-weekdays.ensures.why Calendar (weekday_needed c.loop-day.day _ c.loop-day-test.true))

pub loop-day-preserved : goal.loop-day-preserved
loop-day-preserved g c = (
  length-set c.loop-day.weekdays c.loop-day.day c.in_ok-weekdays.field-0 ∙ c.loop-day.invariant.0,
  places_more c.loop-day.weekdays c.loop-day.day (fields_of c.args.table.now.row) c.in_ok-weekdays.field-0 _ c.loop-day-test.true c.loop-day.invariant.0
      c.loop-day.invariant.1 c.in_ok-weekdays.ensures.place,
)
