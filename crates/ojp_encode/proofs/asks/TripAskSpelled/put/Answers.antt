use Rattle.std.proofs.Common.{[], ◌∷◌, refl}
use Rattle.ojp_grammar.specs.Items.{text}
use Rattle.ojp_grammar.specs.Fields.{field_text}
use Rattle.ojp_grammar.specs.Syntax.{Fits}
use Rattle.ojp_grammar.specs.Grammar.{TRIP_ASK}
use Rattle.ojp_grammar.specs.Documents.{trip_ask_said}
use Rattle.ojp_encode.specs.Writing.{spelling}
use Rattle.ojp_encode.proofs.Filling.{Writes-filled, cons-same}
use Rattle.ojp_encode.proofs.Fitting.{ok_given, from_fits, to_fits}
use Rattle.ojp_encode.proofs.asks.TripAskSpelled.put.Goals as goal

pub returns-clause-spelled : goal.returns-clause-spelled
unfolding spelling text field_text
returns-clause-spelled g c =
    Writes-filled TRIP_ASK (trip_ask_said c.args.self.now) _ _ _ _ _ (c.text-origin.result.now ∷ c.text.result ∷ c.text-target.result.now ∷ []) c.put_tag.ensures
    (cons-same _ _ _ _ c.text-origin.ensures.value (cons-same _ _ _ _ c.text.ensures.value (cons-same _ _ _ _ c.text-target.ensures.value refl)))

pub returns-clause-fits : goal.returns-clause-fits
returns-clause-fits g c =
    ok_given _ (Fits TRIP_ASK (trip_ask_said c.args.self.now)) (tt, ((from_fits c.args.self.now.origin c.args.self.now.start c.text-origin.ensures.well c.text.ensures.well, to_fits c.args.self.now.target c.text-target.ensures.well), tt))
