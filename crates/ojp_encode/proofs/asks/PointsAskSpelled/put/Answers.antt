use Rattle.std.proofs.Common.{List, ℕ, Option, None, Some, [], ◌∷◌, refl, sym, ap, subst, lit≤}
use Rattle.ojp_grammar.specs.Items.{text}
use Rattle.ojp_grammar.specs.Fields.{field_text}
use Rattle.ojp_grammar.specs.Syntax.{Fits}
use Rattle.ojp_grammar.specs.Grammar.{POINTS_ASK}
use Rattle.ojp_grammar.specs.Documents.{points_ask_said}
use Rattle.ojp_encode.specs.Writing.{spelling}
use Rattle.ojp_encode.proofs.Filling.{Writes-filled, cons-same}
use Rattle.ojp_encode.proofs.Sequences.{Writes-same}
use Rattle.ojp_encode.proofs.Fitting.{ok_given, place_fits}
use Rattle.ojp_encode.proofs.asks.PointsAskSpelled.put.Goals as goal

pub returns-in-None-clause-spelled : goal.returns-in-None-clause-spelled
unfolding spelling text field_text
returns-in-None-clause-spelled g c =
    Writes-same _ _ _ _ _ _ _
    (Writes-filled POINTS_ASK (points_ask_said (record { place = None })) _ _ _ _ _ ([]) c.put_tag.ensures
    refl)
    (ap (λ (p : Option (List ℕ)). spelling POINTS_ASK (points_ask_said (record { place = p }))) (sym c.in-None.is))

pub returns-in-Some-clause-spelled : goal.returns-in-Some-clause-spelled
unfolding spelling text field_text
returns-in-Some-clause-spelled g c =
    Writes-same _ _ _ _ _ _ _
    (Writes-filled POINTS_ASK (points_ask_said (record { place = Some c.in-Some.stop })) _ _ _ _ _ (c.text-stop.result.now ∷ []) c.put_tag-in-Some.ensures
    (cons-same _ _ _ _ c.text-stop.ensures.value refl))
    (ap (λ (p : Option (List ℕ)). spelling POINTS_ASK (points_ask_said (record { place = p }))) (sym c.in-Some.is))

pub returns-in-None-clause-fits : goal.returns-in-None-clause-fits
returns-in-None-clause-fits g c =
    ok_given _ (Fits POINTS_ASK (points_ask_said c.args.self.now)) (subst (λ (p : Option (List ℕ)). Fits POINTS_ASK (points_ask_said (record { place = p }))) (sym c.in-None.is) (tt, (lit≤ tt, lit≤ tt, tt, tt)))

pub returns-in-Some-clause-fits : goal.returns-in-Some-clause-fits
returns-in-Some-clause-fits g c =
    ok_given _ (Fits POINTS_ASK (points_ask_said c.args.self.now)) (subst (λ (p : Option (List ℕ)). Fits POINTS_ASK (points_ask_said (record { place = p }))) (sym c.in-Some.is) (tt, (lit≤ tt, lit≤ tt, (place_fits c.in-Some.stop c.text-stop.ensures.well, tt), tt)))
