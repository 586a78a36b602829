use Rattle.std.proofs.Common.{sym, ◌∙◌, ap}
use Rattle.ojp_timetable.specs.Fields.{fields_of}
use Rattle.ojp_timetable.specs.Said.{journey_fields}
use Rattle.ojp_timetable.proofs.JourneyFacts.{journey_closed, journey_open}
use Rattle.ojp_timetable.proofs.file.said.read_journey_line.Goals as goal

pub returns-then-not-is_closed-clause-value : goal.returns-then-not-is_closed-clause-value
returns-then-not-is_closed-clause-value c region =
    sym (journey_open region c.args.left.now (fields_of c.args.rest.now) (sym c.is_closed.ensures ∙ c.if-not-is_closed.true))

pub returns-clause-value : goal.returns-clause-value
returns-clause-value c region =
    c.read_label_fields.ensures
    ∙ (ap journey_fields c.new-fields.ensures ∙ sym (journey_closed region c.args.left.now (fields_of c.args.rest.now) (sym c.is_closed.ensures ∙ c.if-not-is_closed.false)))
