use Rattle.std.proofs.Common.{arith}
use Rattle.ojp_timetable.proofs.FieldFacts.{begins_journey}
use Rattle.ojp_timetable.proofs.file.said.behind_journey.Goals as goal

pub returns-in-106 : goal.returns-in-106
returns-in-106 c =
    begins_journey c.args.line.now c.in-106.len_at_least (omega arith) (omega arith) (omega arith) (omega arith) (omega arith) (omega arith) (omega arith) (omega arith)
