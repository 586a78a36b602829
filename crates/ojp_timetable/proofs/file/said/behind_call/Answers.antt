use Rattle.std.proofs.Common.{arith}
use Rattle.ojp_timetable.proofs.FieldFacts.{begins_call}
use Rattle.ojp_timetable.proofs.file.said.behind_call.Goals as goal

pub returns-in-99 : goal.returns-in-99
returns-in-99 c =
    begins_call c.args.line.now c.in-99.len_at_least (omega arith) (omega arith) (omega arith) (omega arith) (omega arith)
