use Rattle.std.proofs.Common.{refl}
use Rattle.csv.specs.Records.{fields_of}
use Rattle.ojp_feed_lines.specs.declared.columns.Column.TheVariants as columns
use Rattle.ojp_feed_lines.specs.declared.files.FeedFile.TheVariants.{Stops}
use Rattle.ojp_feed_lines.proofs.CauseFacts.{id_refused}
use Rattle.ojp_feed_lines.proofs.Explained.{passed_is}
use Rattle.ojp_feed_lines.proofs.stops.StopRowsRows.take_row.Goals as goal

pub returns-in_err-add_row-clause-why : goal.returns-in_err-add_row-clause-why
returns-in_err-add_row-clause-why g c =
    rw (passed_is c.from_residual.result c.in_err-add_row.field-0.0 c.from_residual.ensures.1)
    (λ head above placed held.
    id_refused Stops columns.StopId head above (fields_of c.args.table.now.row) c.args.columns.id c.args.self.now.ids c.in_err-add_row.field-0.0 refl refl refl (λ is. absurd (cc)) placed.id held
    c.in_err-add_row.ensures.why)

pub returns-in_err-stop_of-clause-why : goal.returns-in_err-stop_of-clause-why
returns-in_err-stop_of-clause-why g c =
    rw (passed_is c.from_residual-in_err-stop_of.result c.in_err-stop_of.field-0.0 c.from_residual-in_err-stop_of.ensures.1)
    (λ head above placed held. c.in_err-stop_of.ensures.why head above placed)
