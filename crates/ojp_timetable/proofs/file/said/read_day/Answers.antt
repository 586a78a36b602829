use Rattle.std.proofs.Common.{◌∙◌, ap}
use Rattle.std.specs.Prelude.{Some, None}
use Rattle.ojp_timetable.proofs.DayFacts.{days_are_spelled, one_reading}
use Rattle.ojp_timetable.proofs.file.said.read_day.Goals as goal

pub returns-in_err-day-clause-value : goal.returns-in_err-day-clause-value
returns-in_err-day-clause-value c = c.from_residual.ensures ∙ one_reading c.args.text.now None _ c.in_err-day.ensures (days_are_spelled c.args.text.now)

pub returns-clause-value : goal.returns-clause-value
returns-clause-value c =
    ap Some c.number.ensures.value ∙ one_reading c.args.text.now (Some c.in_ok-day.day) _ c.in_ok-day.ensures (days_are_spelled c.args.text.now)
