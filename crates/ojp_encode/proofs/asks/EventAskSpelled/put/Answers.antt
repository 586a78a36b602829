use Rattle.std.proofs.Common.{[], ◌∷◌, codes, refl, sym, ap, ◌∙◌}
use Rattle.ojp_grammar.specs.Items.{text}
use Rattle.ojp_grammar.specs.Fields.{field_text, event_text}
use Rattle.ojp_grammar.specs.Syntax.{Fits}
use Rattle.ojp_grammar.specs.Grammar.{EVENT_ASK}
use Rattle.ojp_grammar.specs.Documents.{event_ask_said}
use Rattle.ojp_encode.specs.Writing.{spelling}
use Rattle.ojp_encode.proofs.Filling.{Writes-filled, cons-same}
use Rattle.ojp_encode.proofs.Fitting.{ok_given, place_fits}
use Rattle.ojp_encode.proofs.asks.EventAskSpelled.put.Goals as goal

pub returns-in-Departure-clause-spelled : goal.returns-in-Departure-clause-spelled
unfolding spelling text field_text
returns-in-Departure-clause-spelled g c =
    Writes-filled EVENT_ASK (event_ask_said c.args.self.now) _ _ _ _ _ (c.text-stop.result.now ∷ c.text.result ∷ c.as_bytes-number.result.now ∷ codes "departure" ∷ []) c.put_tag.ensures
    (cons-same _ _ _ _ c.text-stop.ensures.value (cons-same _ _ _ _ c.text.ensures.value (cons-same _ _ _ _ (c.as_bytes-number.ensures.value ∙ c.format.ensures.text) (cons-same _ _ _ _ (ap event_text (sym c.in-Departure.is)) refl))))

pub returns-in-Arrival-clause-spelled : goal.returns-in-Arrival-clause-spelled
unfolding spelling text field_text
returns-in-Arrival-clause-spelled g c =
    Writes-filled EVENT_ASK (event_ask_said c.args.self.now) _ _ _ _ _ (c.text-stop.result.now ∷ c.text.result ∷ c.as_bytes-number.result.now ∷ codes "arrival" ∷ []) c.put_tag-in-Arrival.ensures
    (cons-same _ _ _ _ c.text-stop.ensures.value (cons-same _ _ _ _ c.text.ensures.value (cons-same _ _ _ _ (c.as_bytes-number.ensures.value ∙ c.format.ensures.text) (cons-same _ _ _ _ (ap event_text (sym c.in-Arrival.is)) refl))))

pub returns-in-Departure-clause-fits : goal.returns-in-Departure-clause-fits
returns-in-Departure-clause-fits g c =
    ok_given _ (Fits EVENT_ASK (event_ask_said c.args.self.now)) (tt, (((tt, ((place_fits c.args.self.now.stop c.text-stop.ensures.well, (tt, c.text.ensures.well)), tt)), (tt, (((tt, c.requires), (tt, tt)), tt))), tt))

pub returns-in-Arrival-clause-fits : goal.returns-in-Arrival-clause-fits
returns-in-Arrival-clause-fits g c =
    ok_given _ (Fits EVENT_ASK (event_ask_said c.args.self.now)) (tt, (((tt, ((place_fits c.args.self.now.stop c.text-stop.ensures.well, (tt, c.text.ensures.well)), tt)), (tt, (((tt, c.requires), (tt, tt)), tt))), tt))
