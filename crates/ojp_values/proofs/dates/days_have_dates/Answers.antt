use Rattle.ojp_values.proofs.Calendar as calendar
use Rattle.ojp_values.proofs.dates.days_have_dates.Goals as goal

pub returns : goal.returns
returns c = calendar.days_have_dates
