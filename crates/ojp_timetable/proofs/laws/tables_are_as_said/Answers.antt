use Rattle.ojp_timetable.proofs.SaidFacts as facts
use Rattle.ojp_timetable.proofs.laws.tables_are_as_said.Goals as goal

pub returns : goal.returns
returns c = facts.tables_are_as_said
