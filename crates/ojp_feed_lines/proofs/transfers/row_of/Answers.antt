use Rattle.std.proofs.Common.{◌∙◌, refl, sym}
use Rattle.csv.specs.Records.{fields_of}
use Rattle.ojp_feed_lines.specs.declared.columns.Column.TheVariants as columns
use Rattle.ojp_feed_lines.specs.declared.files.FeedFile.TheVariants.{Transfers}
use Rattle.ojp_feed_lines.proofs.CauseFacts.{bad_text}
use Rattle.ojp_feed_lines.proofs.Explained.{passed_is}
use Rattle.ojp_feed_lines.proofs.transfers.row_of.Goals as goal

pub returns-in_err-kind-clause-why : goal.returns-in_err-kind-clause-why
returns-in_err-kind-clause-why g c =
    rw (passed_is c.from_residual.result c.in_err-kind.field-0.0 c.from_residual.ensures.1)
    (λ head above placed.
    bad_text Transfers columns.TransferType head above (fields_of c.args.table.now.row) c.args.columns.kind c.as_bytes.result.now c.in_err-kind.field-0.0 refl placed.kind (c.as_bytes.ensures.value ∙ c.field_of.ensures)
    (sym c.read_kind.ensures ∙ c.in_err-kind.ensures.why.0) c.in_err-kind.ensures.why.1)

pub returns-in_err-seconds-clause-why : goal.returns-in_err-seconds-clause-why
returns-in_err-seconds-clause-why g c =
    rw (passed_is c.from_residual-in_err-seconds.result c.in_err-seconds.field-0.0 c.from_residual-in_err-seconds.ensures.1)
    (λ head above placed.
    bad_text Transfers columns.MinTransferTime head above (fields_of c.args.table.now.row) c.args.columns.seconds c.as_bytes-2.result.now c.in_err-seconds.field-0.0 refl placed.seconds (c.as_bytes-2.ensures.value ∙ c.field_of-2.ensures)
    (sym c.read_seconds.ensures ∙ c.in_err-seconds.ensures.why.0) c.in_err-seconds.ensures.why.1)
