use Rattle.std.proofs.Common.{[], ◌∷◌, ◌+◌, refl, sym, ap, subst}
use Rattle.ojp_tables.specs.declared.names.TheConstants as names
use Rattle.ojp_grammar.specs.Items.{text, tag}
use Rattle.ojp_grammar.specs.Fields.{field_text}
use Rattle.ojp_grammar.specs.Syntax as syntax
use Rattle.ojp_grammar.specs.Syntax.{Fits}
use Rattle.ojp_grammar.specs.Grammar.{TRIP, MULTI_RESULT}
use Rattle.ojp_grammar.specs.Documents.{trip_said, result_said}
use Rattle.ojp_values.specs.declared.replies.TripResult.{TripResult}
use Rattle.ojp_values.specs.declared.replies.TripResult.TheVariants as results
use Rattle.ojp_encode.specs.Writing.{spelling}
use Rattle.ojp_encode.proofs.Filling.{Writes-filled, Writes-around, cons-same}
use Rattle.ojp_encode.proofs.Sequences.{Writes-same}
use Rattle.ojp_encode.proofs.Fitting.{ok_given, ok_then}
use Rattle.ojp_encode.proofs.replies.TripResultSpelled.put.Goals as goal

pub returns-in-Trip-clause-spelled : goal.returns-in-Trip-clause-spelled
unfolding spelling text field_text
returns-in-Trip-clause-spelled g c =
    Writes-same _ _ _ _ _ _ _
    (Writes-around (syntax.text names.MULTI_POINT_TRIP_RESULT) tt TRIP (trip_said c.in-Trip.trip) (tag (names.MULTI_POINT_TRIP_RESULT + 1) ∷ []) _ _ _ _ _ [] c.put_around.ensures.spelled refl)
    (ap (λ (r : TripResult). spelling MULTI_RESULT (result_said r)) (sym c.in-Trip.is))

pub returns-in-NoTrip-clause-spelled : goal.returns-in-NoTrip-clause-spelled
unfolding spelling text field_text
returns-in-NoTrip-clause-spelled g c =
    Writes-same _ _ _ _ _ _ _
    (Writes-filled MULTI_RESULT (result_said (results.NoTrip c.in-NoTrip.stop)) _ _ _ _ _ (c.text-stop.result.now ∷ []) c.put_tag.ensures
    (cons-same _ _ _ _ c.text-stop.ensures.value refl))
    (ap (λ (r : TripResult). spelling MULTI_RESULT (result_said r)) (sym c.in-NoTrip.is))

pub returns-in-Trip-clause-fits : goal.returns-in-Trip-clause-fits
returns-in-Trip-clause-fits g c =
    let whole : Fits TRIP (trip_said c.in-Trip.trip) → Fits MULTI_RESULT (result_said c.args.self.now) = λ h. subst (λ (r : TripResult). Fits MULTI_RESULT (result_said r)) (sym c.in-Trip.is) (tt, (h, tt)) in
    ok_then _ (Fits TRIP (trip_said c.in-Trip.trip)) (Fits MULTI_RESULT (result_said c.args.self.now)) whole c.put_around.ensures.fits

pub returns-in-NoTrip-clause-fits : goal.returns-in-NoTrip-clause-fits
returns-in-NoTrip-clause-fits g c =
    ok_given _ (Fits MULTI_RESULT (result_said c.args.self.now)) (subst (λ (r : TripResult). Fits MULTI_RESULT (result_said r)) (sym c.in-NoTrip.is) (tt, ((tt, ((tt, (tt, c.text-stop.ensures.well)), tt)), tt)))
