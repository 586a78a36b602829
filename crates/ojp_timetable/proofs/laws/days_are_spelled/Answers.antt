use Rattle.ojp_timetable.proofs.DayFacts as days
use Rattle.ojp_timetable.proofs.laws.days_are_spelled.Goals as goal

pub returns : goal.returns
returns c = days.days_are_spelled
