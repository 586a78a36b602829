use Rattle.std.proofs.Common.{◌∙◌, refl, sym, Some}
use Rattle.csv.specs.Records.{fields_of}
use Rattle.ojp_feed_lines.specs.declared.columns.Column.TheVariants as columns
use Rattle.ojp_feed_lines.specs.declared.files.FeedFile.TheVariants.{StopTimes}
use Rattle.ojp_feed_lines.proofs.CauseFacts.{bad_text, no_value}
use Rattle.ojp_feed_lines.proofs.Explained.{passed_is}
use Rattle.ojp_feed_lines.proofs.stop_times.stop_time_of.Goals as goal

pub returns-in_err-value-clause-why : goal.returns-in_err-value-clause-why
returns-in_err-value-clause-why g c =
    rw (passed_is c.from_residual.result c.in_err-value.field-0.0 c.from_residual.ensures.1)
    (λ head above placed.
    bad_text StopTimes columns.StopSequence head above (fields_of c.args.table.now.row) (Some c.args.columns.sequence) c.as_bytes.result.now c.in_err-value.field-0.0 refl placed.sequence (c.as_bytes.ensures.value ∙ c.field.ensures)
    (no_value _ _ c.read_count-sequence.result c.read_count-sequence.ensures.value c.in_err-value.ensures.why.0) c.in_err-value.ensures.why.1)

pub returns-in_err-value-2-clause-why : goal.returns-in_err-value-2-clause-why
returns-in_err-value-2-clause-why g c =
    rw (passed_is c.from_residual-in_err-value-2.result c.in_err-value-2.field-0.0 c.from_residual-in_err-value-2.ensures.1)
    (λ head above placed.
    bad_text StopTimes columns.ArrivalTime head above (fields_of c.args.table.now.row) (Some c.args.columns.arrival) c.as_bytes-2.result.now c.in_err-value-2.field-0.0 refl placed.arrival (c.as_bytes-2.ensures.value ∙ c.field-2.ensures)
    (sym c.read_empty_or_time-arrival.ensures ∙ c.in_err-value-2.ensures.why.0) c.in_err-value-2.ensures.why.1)

pub returns-in_err-value-3-clause-why : goal.returns-in_err-value-3-clause-why
returns-in_err-value-3-clause-why g c =
    rw (passed_is c.from_residual-in_err-value-3.result c.in_err-value-3.field-0.0 c.from_residual-in_err-value-3.ensures.1)
    (λ head above placed.
    bad_text StopTimes columns.DepartureTime head above (fields_of c.args.table.now.row) (Some c.args.columns.departure) c.as_bytes-3.result.now c.in_err-value-3.field-0.0 refl placed.departure (c.as_bytes-3.ensures.value ∙ c.field-3.ensures)
    (sym c.read_empty_or_time-departure.ensures ∙ c.in_err-value-3.ensures.why.0) c.in_err-value-3.ensures.why.1)

pub returns-in_err-value-4-clause-why : goal.returns-in_err-value-4-clause-why
returns-in_err-value-4-clause-why g c =
    rw (passed_is c.from_residual-in_err-value-4.result c.in_err-value-4.field-0.0 c.from_residual-in_err-value-4.ensures.1)
    (λ head above placed.
    bad_text StopTimes columns.PickupType head above (fields_of c.args.table.now.row) c.args.columns.boarding c.field_of.result.now c.in_err-value-4.field-0.0 refl placed.boarding (c.field_of.ensures)
    (sym c.read_access-boarding.ensures ∙ c.in_err-value-4.ensures.why.0) c.in_err-value-4.ensures.why.1)

pub returns-in_err-value-5-clause-why : goal.returns-in_err-value-5-clause-why
returns-in_err-value-5-clause-why g c =
    rw (passed_is c.from_residual-in_err-value-5.result c.in_err-value-5.field-0.0 c.from_residual-in_err-value-5.ensures.1)
    (λ head above placed.
    bad_text StopTimes columns.DropOffType head above (fields_of c.args.table.now.row) c.args.columns.alighting c.field_of-2.result.now c.in_err-value-5.field-0.0 refl placed.alighting (c.field_of-2.ensures)
    (sym c.read_access-alighting.ensures ∙ c.in_err-value-5.ensures.why.0) c.in_err-value-5.ensures.why.1)
