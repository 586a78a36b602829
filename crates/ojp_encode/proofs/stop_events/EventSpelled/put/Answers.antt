use Rattle.std.proofs.Common.{[], ◌∷◌, refl, ◌∙◌, arith}
use Rattle.ojp_grammar.specs.Items.{text}
use Rattle.ojp_grammar.specs.Fields.{field_text}
use Rattle.ojp_grammar.specs.Syntax.{Fits}
use Rattle.ojp_grammar.specs.Grammar.{EVENT}
use Rattle.ojp_grammar.specs.Documents.{event_said}
use Rattle.ojp_encode.specs.Writing.{spelling}
use Rattle.ojp_encode.proofs.Filling.{Writes-filled, cons-same}
use Rattle.ojp_encode.proofs.Fitting.{ok_given, service_fits}
use Rattle.ojp_encode.proofs.stop_events.EventSpelled.put.Goals as goal

pub returns-clause-spelled : goal.returns-clause-spelled
unfolding spelling text field_text
returns-clause-spelled g c =
    Writes-filled EVENT (event_said c.args.self.now) _ _ _ _ _ (c.text-stop.result.now ∷ c.as_bytes-order.result.now ∷ c.text.result ∷ c.text-2.result ∷ c.text-journey.result.now ∷ c.text-line.result.now ∷ c.text-region.result.now ∷ []) c.put_tag.ensures
    (cons-same _ _ _ _ c.text-stop.ensures.value (cons-same _ _ _ _ (c.as_bytes-order.ensures.value ∙ c.format.ensures.text) (cons-same _ _ _ _ c.text.ensures.value (cons-same _ _ _ _ c.text-2.ensures.value (cons-same _ _ _ _ c.text-journey.ensures.value (cons-same _ _ _ _ c.text-line.ensures.value (cons-same _ _ _ _ c.text-region.ensures.value refl)))))))

pub returns-clause-fits : goal.returns-clause-fits
returns-clause-fits g c =
    ok_given _ (Fits EVENT (event_said c.args.self.now)) (tt, (((tt, c.text-stop.ensures.well), ((tt, omega arith), ((tt, c.text.ensures.well), service_fits c.args.self.now.day c.args.self.now.journey c.args.self.now.line c.args.self.now.region c.text-2.ensures.from c.text-2.ensures.to c.text-journey.ensures.well c.text-line.ensures.well c.text-region.ensures.well))), tt))
