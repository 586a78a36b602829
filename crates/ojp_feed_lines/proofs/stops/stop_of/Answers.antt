use Rattle.std.proofs.Common.{◌∙◌, refl, sym}
use Rattle.csv.specs.Records.{fields_of}
use Rattle.ojp_feed_lines.specs.declared.columns.Column.TheVariants as columns
use Rattle.ojp_feed_lines.specs.declared.files.FeedFile.TheVariants.{Stops}
use Rattle.ojp_feed_lines.proofs.CauseFacts.{bad_text}
use Rattle.ojp_feed_lines.proofs.Explained.{passed_is}
use Rattle.ojp_feed_lines.proofs.stops.stop_of.Goals as goal

pub returns-in_err-kind-clause-why : goal.returns-in_err-kind-clause-why
returns-in_err-kind-clause-why g c =
    rw (passed_is c.from_residual.result c.in_err-kind.field-0.0 c.from_residual.ensures.1)
    (λ head above placed.
    bad_text Stops columns.LocationType head above (fields_of c.args.table.now.row) c.args.columns.kind c.field_of.result.now c.in_err-kind.field-0.0 refl placed.kind (c.field_of.ensures)
    (sym c.read_location-kind.ensures ∙ c.in_err-kind.ensures.why.0) c.in_err-kind.ensures.why.1)
