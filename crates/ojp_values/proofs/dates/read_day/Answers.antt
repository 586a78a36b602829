use Rattle.ojp_values.proofs.Calendar.{read_day_by, no_day}
use Rattle.ojp_values.proofs.dates.read_day.Goals as goal

pub returns-in_err-read_date : goal.returns-in_err-read_date
returns-in_err-read_date c = rw c.from_residual.ensures (no_day c.args.text.now c.in_err-read_date.ensures)

pub returns : goal.returns
returns c =
    read_day_by c.args.text.now c.in_ok-read_date.field-0 c.day_of_date.result c.in_ok-read_date.ensures.1 c.day_of_date.ensures
