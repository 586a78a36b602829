use Rattle.std.proofs.Common.{[], ◌∷◌, refl, ◌∙◌}
use Rattle.ojp_grammar.specs.Items.{text}
use Rattle.ojp_grammar.specs.Fields.{field_text}
use Rattle.ojp_grammar.specs.Syntax.{Fits}
use Rattle.ojp_grammar.specs.Grammar.{NEIGHBOUR}
use Rattle.ojp_grammar.specs.Documents.{neighbour_said}
use Rattle.ojp_encode.specs.Writing.{spelling}
use Rattle.ojp_encode.proofs.Filling.{Writes-filled, cons-same}
use Rattle.ojp_encode.proofs.Fitting.{ok_given}
use Rattle.ojp_encode.proofs.points.NeighbourSpelled.put.Goals as goal

pub returns-clause-spelled : goal.returns-clause-spelled
unfolding spelling text field_text
returns-clause-spelled g c =
    Writes-filled NEIGHBOUR (neighbour_said c.args.self.now) _ _ _ _ _ (c.text-code.result.now ∷ c.as_bytes-change.result.now ∷ []) c.put_tag.ensures
    (cons-same _ _ _ _ c.text-code.ensures.value (cons-same _ _ _ _ (c.as_bytes-change.ensures.value ∙ c.format.ensures.text) refl))

pub returns-clause-fits : goal.returns-clause-fits
returns-clause-fits g c =
    ok_given _ (Fits NEIGHBOUR (neighbour_said c.args.self.now)) (tt, (((tt, c.text-code.ensures.well), (tt, c.requires)), tt))
