use Rattle.ojp_values.proofs.Calendar as calendar
use Rattle.ojp_values.proofs.dates.dates_have_days.Goals as goal

pub returns : goal.returns
returns c = calendar.dates_have_days
