use Rattle.ojp_timetable.proofs.SaidFacts as facts
use Rattle.ojp_timetable.proofs.laws.above_is_as_said.Goals as goal

pub returns : goal.returns
returns c = facts.above_is_as_said
