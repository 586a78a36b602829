use Rattle.std.proofs.Common.{subst}
use Rattle.std.specs.Prelude.{Contains}
use Rattle.ojp_values.specs.Texts.{Text}
use Rattle.csv.specs.Records.{fields_of}
use Rattle.ojp_feed_lines.specs.IdTexts.{id_texts}
use Rattle.ojp_feed_lines.proofs.CauseFacts.{new_refused, services_limit}
use Rattle.ojp_feed_lines.proofs.Explained.{passed_is}
use Rattle.ojp_feed_lines.proofs.services.service_of.Goals as goal

pub returns-in_err-add_service-clause-why : goal.returns-in_err-add_service-clause-why
returns-in_err-add_service-clause-why g c =
    rw (passed_is c.from_residual.result c.in_err-add_service.field-0.0 c.from_residual.ensures.1)
    (λ head above placed.
    new_refused head above (fields_of c.args.table.now.row) c.args.place (id_texts c.args.services.now.ids) c.in_err-add_service.field-0.0 placed
    (subst (λ (t : Text). ¬ Contains (id_texts c.args.services.now.ids) t) c.field.ensures (c.contains.ensures c.if-not-contains.true))
    c.in_err-add_service.ensures.why)

pub returns-in-None-clause-why : goal.returns-in-None-clause-why
returns-in-None-clause-why g c =
    λ head above placed. services_limit head above (fields_of c.args.table.now.row) c.refused.result c.refused.ensures.reason
