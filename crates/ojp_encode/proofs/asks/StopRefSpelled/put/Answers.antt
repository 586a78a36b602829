use Rattle.std.proofs.Common.{[], ◌∷◌, refl}
use Rattle.ojp_grammar.specs.Items.{text}
use Rattle.ojp_grammar.specs.Fields.{field_text}
use Rattle.ojp_grammar.specs.Syntax.{Fits}
use Rattle.ojp_grammar.specs.Grammar.{TO}
use Rattle.ojp_grammar.specs.Documents.{to_said}
use Rattle.ojp_encode.specs.Writing.{spelling}
use Rattle.ojp_encode.proofs.Filling.{Writes-filled, cons-same}
use Rattle.ojp_encode.proofs.Fitting.{ok_given, to_fits}
use Rattle.ojp_encode.proofs.asks.StopRefSpelled.put.Goals as goal

pub returns-clause-spelled : goal.returns-clause-spelled
unfolding spelling text field_text
returns-clause-spelled g c =
    Writes-filled TO (to_said c.args.self.now) _ _ _ _ _ (c.text-stop.result.now ∷ []) c.put_tag.ensures
    (cons-same _ _ _ _ c.text-stop.ensures.value refl)

pub returns-clause-fits : goal.returns-clause-fits
returns-clause-fits g c =
    ok_given _ (Fits TO (to_said c.args.self.now)) (to_fits c.args.self.now c.text-stop.ensures.well)
