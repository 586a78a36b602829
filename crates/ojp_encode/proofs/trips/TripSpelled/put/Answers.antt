use Rattle.std.proofs.Common.{List, [], ◌∷◌, ◌+◌, refl, ap, ◌∙◌, arith, All}
use Rattle.ojp_tables.specs.declared.names.TheConstants as names
use Rattle.ojp_values.specs.declared.kinds.Kind.TheVariants as kinds
use Rattle.ojp_grammar.specs.Items.{text, tag}
use Rattle.ojp_grammar.specs.Fields.{field_text}
use Rattle.ojp_grammar.specs.Syntax.{Fits}
use Rattle.ojp_grammar.specs.Syntax as syntax
use Rattle.ojp_grammar.specs.Grammar.{LEG, TRIP}
use Rattle.ojp_grammar.specs.Documents.{leg_said, trip_said}
use Rattle.ojp_values.specs.declared.trips.Leg.{Leg}
use Rattle.ojp_encode.specs.Writing.{spelling}
use Rattle.ojp_encode.proofs.Filling.{Writes-list, cons-same}
use Rattle.ojp_encode.proofs.Sequences.{Writes-same}
use Rattle.ojp_encode.proofs.Fitting.{ok_then, list_fits}
use Rattle.ojp_encode.proofs.trips.TripSpelled.put.Goals as goal

pub returns-clause-spelled : goal.returns-clause-spelled
unfolding spelling text field_text
returns-clause-spelled g c =
    Writes-same _ _ _ _ _ _ _
    (Writes-list (syntax.both (syntax.text names.TRIP) (syntax.both (syntax.leaf names.DURATION kinds.Seconds) (syntax.both (syntax.leaf names.START_TIME kinds.Moment) (syntax.both (syntax.leaf names.END_TIME kinds.Moment) (syntax.leaf names.TRANSFERS kinds.Count))))) (tt, ((tt, c.args.self.now.duration), ((tt, c.args.self.now.start), ((tt, c.args.self.now.end), (tt, c.args.self.now.transfers))))) LEG leg_said c.as_slice-legs.result.now (tag (names.TRIP + 1) ∷ []) _ _ _ _ _ (c.as_bytes-duration.result.now ∷ c.text.result ∷ c.text-2.result ∷ c.as_bytes-transfers.result.now ∷ []) c.put_list.ensures.spelled (cons-same _ _ _ _ (c.as_bytes-duration.ensures.value ∙ c.format.ensures.text) (cons-same _ _ _ _ c.text.ensures.value (cons-same _ _ _ _ c.text-2.ensures.value (cons-same _ _ _ _ (c.as_bytes-transfers.ensures.value ∙ c.format-2.ensures.text) refl)))))
    (ap (λ (l : List Leg). spelling TRIP (trip_said (record c.args.self.now { legs = l }))) c.as_slice-legs.ensures)

pub returns-clause-fits : goal.returns-clause-fits
returns-clause-fits g c =
    let each : All (λ (x : Leg). Fits LEG (leg_said x)) c.as_slice-legs.result.now → Fits TRIP (trip_said c.args.self.now) = λ h. (tt, ((tt, omega arith), ((tt, c.text.ensures.well), ((tt, c.text-2.ensures.well), ((tt, omega arith), list_fits 1 86_401 LEG (syntax.text (names.TRIP + 1)) leg_said c.as_slice-legs.result.now c.args.self.now.legs tt c.as_slice-legs.ensures c.requires.0 c.requires.1 tt h))))) in
    ok_then _ (All (λ (x : Leg). Fits LEG (leg_said x)) c.as_slice-legs.result.now) (Fits TRIP (trip_said c.args.self.now)) each c.put_list.ensures.fits
