use Rattle.std.proofs.Common.{sym, ◌∙◌}
use Rattle.ojp_timetable.proofs.CallFacts.{call_goes_on}
use Rattle.ojp_timetable.proofs.file.said.read_call_fields.Goals as goal

pub returns-then-may_call-clause-stands : goal.returns-then-may_call-clause-stands
returns-then-may_call-clause-stands c =
    call_goes_on c.args.left.now c.in-Some.stop.now c.in-Some.arrives.now c.in-Some.departs.now c.read_call.result c.read_call.ensures.value
    (sym c.may_call.ensures ∙ c.if-may_call.true)
