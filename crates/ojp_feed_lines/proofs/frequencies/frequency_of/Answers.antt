use Rattle.std.proofs.Common.{◌∙◌, refl, sym, Some}
use Rattle.csv.specs.Records.{fields_of}
use Rattle.ojp_feed_lines.specs.declared.columns.Column.TheVariants as columns
use Rattle.ojp_feed_lines.specs.declared.files.FeedFile.TheVariants.{Frequencies}
use Rattle.ojp_feed_lines.proofs.CauseFacts.{bad_text, no_value}
use Rattle.ojp_feed_lines.proofs.Explained.{passed_is}
use Rattle.ojp_feed_lines.proofs.frequencies.frequency_of.Goals as goal

pub returns-in_err-start-clause-why : goal.returns-in_err-start-clause-why
returns-in_err-start-clause-why g c =
    rw (passed_is c.from_residual.result c.in_err-start.field-0.0 c.from_residual.ensures.1)
    (λ head above placed.
    bad_text Frequencies columns.StartTime head above (fields_of c.args.table.now.row) (Some c.args.columns.start) c.as_bytes.result.now c.in_err-start.field-0.0 refl placed.start (c.as_bytes.ensures.value ∙ c.field.ensures)
    (no_value _ _ c.read_time.result c.read_time.ensures.value c.in_err-start.ensures.why.0) c.in_err-start.ensures.why.1)

pub returns-in_err-end-clause-why : goal.returns-in_err-end-clause-why
returns-in_err-end-clause-why g c =
    rw (passed_is c.from_residual-in_err-end.result c.in_err-end.field-0.0 c.from_residual-in_err-end.ensures.1)
    (λ head above placed.
    bad_text Frequencies columns.EndTime head above (fields_of c.args.table.now.row) (Some c.args.columns.end) c.as_bytes-2.result.now c.in_err-end.field-0.0 refl placed.end (c.as_bytes-2.ensures.value ∙ c.field-2.ensures)
    (no_value _ _ c.read_time-2.result c.read_time-2.ensures.value c.in_err-end.ensures.why.0) c.in_err-end.ensures.why.1)

pub returns-in_err-headway-clause-why : goal.returns-in_err-headway-clause-why
returns-in_err-headway-clause-why g c =
    rw (passed_is c.from_residual-in_err-headway.result c.in_err-headway.field-0.0 c.from_residual-in_err-headway.ensures.1)
    (λ head above placed.
    bad_text Frequencies columns.HeadwaySecs head above (fields_of c.args.table.now.row) (Some c.args.columns.headway) c.as_bytes-3.result.now c.in_err-headway.field-0.0 refl placed.headway (c.as_bytes-3.ensures.value ∙ c.field-3.ensures)
    (no_value _ _ c.read_headway.result c.read_headway.ensures c.in_err-headway.ensures.why.0) c.in_err-headway.ensures.why.1)

pub returns-in_err-exact-clause-why : goal.returns-in_err-exact-clause-why
returns-in_err-exact-clause-why g c =
    rw (passed_is c.from_residual-in_err-exact.result c.in_err-exact.field-0.0 c.from_residual-in_err-exact.ensures.1)
    (λ head above placed.
    bad_text Frequencies columns.ExactTimes head above (fields_of c.args.table.now.row) c.args.columns.exact c.field_of.result.now c.in_err-exact.field-0.0 refl placed.exact (c.field_of.ensures)
    (sym c.read_exact.ensures ∙ c.in_err-exact.ensures.why.0) c.in_err-exact.ensures.why.1)
