use Rattle.std.proofs.Common.{sym, ◌∙◌, ap}
use Rattle.ojp_timetable.specs.Fields.{fields_of}
use Rattle.ojp_timetable.specs.Said.{call_fields}
use Rattle.ojp_timetable.proofs.CallFacts.{call_line_says}
use Rattle.ojp_timetable.proofs.file.said.read_call_line.Goals as goal

pub returns-clause-value : goal.returns-clause-value
returns-clause-value c region =
    let left = c.args.left.now in
    c.read_call_fields.ensures.value
    ∙ (ap (call_fields left) c.new-fields.ensures ∙ sym (call_line_says region left (fields_of c.args.rest.now)))
