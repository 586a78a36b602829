use Rattle.std.proofs.Common.{refl}
use Rattle.csv.specs.Records.{fields_of}
use Rattle.ojp_feed_lines.specs.declared.columns.Column.TheVariants as columns
use Rattle.ojp_feed_lines.specs.declared.files.FeedFile.TheVariants.{Routes}
use Rattle.ojp_feed_lines.proofs.CauseFacts.{id_refused}
use Rattle.ojp_feed_lines.proofs.Explained.{passed_is}
use Rattle.ojp_feed_lines.proofs.routes.RoutesRows.take_row.Goals as goal

pub returns-in_err-add_row-clause-why : goal.returns-in_err-add_row-clause-why
returns-in_err-add_row-clause-why g c =
    rw (passed_is c.from_residual.result c.in_err-add_row.field-0.0 c.from_residual.ensures.1)
    (λ head above placed held.
    id_refused Routes columns.RouteId head above (fields_of c.args.table.now.row) c.args.columns.id c.args.self.now.ids c.in_err-add_row.field-0.0 refl refl refl (λ is. absurd (cc)) placed.0 held.1
    c.in_err-add_row.ensures.why)
