use Rattle.std.proofs.Common.{refl}
use Rattle.csv.specs.Records.{fields_of}
use Rattle.ojp_feed_lines.specs.declared.columns.Column.TheVariants as columns
use Rattle.ojp_feed_lines.specs.declared.files.FeedFile.TheVariants.{Calendar}
use Rattle.ojp_feed_lines.proofs.CauseFacts.{id_refused}
use Rattle.ojp_feed_lines.proofs.Explained.{on_err, passed_is}
use Rattle.ojp_feed_lines.proofs.services.WeeklyRowsRows.take_row.Goals as goal

pub returns-in_err-weekly-clause-why : goal.returns-in_err-weekly-clause-why
returns-in_err-weekly-clause-why g c =
    rw (passed_is c.from_residual.result c.in_err-weekly.field-0.0 c.from_residual.ensures.1)
    (λ head above placed held. c.in_err-weekly.ensures.why head above placed)

pub returns-clause-why : goal.returns-clause-why
returns-clause-why g c =
    on_err c.add_service.result _ _ c.add_service.ensures.why
    (λ e why head above placed held.
    id_refused Calendar columns.ServiceId head above (fields_of c.args.table.now.row) c.args.columns.id c.args.self.now.services.ids e refl refl refl (λ is. absurd (cc)) placed.id held why)
