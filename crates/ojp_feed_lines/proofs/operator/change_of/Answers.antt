use Rattle.std.proofs.Common.{inr, refl, subst}
use Rattle.ojp_values.specs.Texts.{Text}
use Rattle.ojp_feed_lines.specs.IdTexts.{id_texts}
use Rattle.ojp_feed_lines.specs.OperatorCauses.{IsUnknown}
use Rattle.ojp_feed_lines.proofs.operator.change_of.Goals as goal

pub returns-in-None-clause-refused : goal.returns-in-None-clause-refused
returns-in-None-clause-refused c =
    inr (c.in-Some.change.now, c.in-Some.id.now, c.in-Some.ensures, inr (inr (refl, subst (λ (id : Text). IsUnknown (id_texts c.args.stops.now) id) c.in-Ok.ensures.cases.0 c.in-None.ensures)))
