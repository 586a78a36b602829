use Rattle.std.proofs.Common.{[], ◌∷◌, refl}
use Rattle.ojp_grammar.specs.Items.{text}
use Rattle.ojp_grammar.specs.Fields.{field_text}
use Rattle.ojp_grammar.specs.Syntax.{Fits}
use Rattle.ojp_grammar.specs.Grammar.{LEG}
use Rattle.ojp_grammar.specs.Documents.{leg_said}
use Rattle.ojp_encode.specs.Writing.{spelling}
use Rattle.ojp_encode.proofs.Filling.{Writes-filled, cons-same}
use Rattle.ojp_encode.proofs.Fitting.{ok_given, halt_fits, service_fits}
use Rattle.ojp_encode.proofs.trips.LegSpelled.put.Goals as goal

pub returns-clause-spelled : goal.returns-clause-spelled
unfolding spelling text field_text
returns-clause-spelled g c =
    Writes-filled LEG (leg_said c.args.self.now) _ _ _ _ _ (c.text-board.result.now ∷ c.escape-board_name.result.now ∷ c.text.result ∷ c.text-alight.result.now ∷ c.escape-alight_name.result.now ∷ c.text-2.result ∷ c.text-3.result ∷ c.text-journey.result.now ∷ c.text-line.result.now ∷ c.text-region.result.now ∷ []) c.put_tag.ensures
    (cons-same _ _ _ _ c.text-board.ensures.value (cons-same _ _ _ _ c.escape-board_name.ensures.value (cons-same _ _ _ _ c.text.ensures.value (cons-same _ _ _ _ c.text-alight.ensures.value (cons-same _ _ _ _ c.escape-alight_name.ensures.value (cons-same _ _ _ _ c.text-2.ensures.value (cons-same _ _ _ _ c.text-3.ensures.value (cons-same _ _ _ _ c.text-journey.ensures.value (cons-same _ _ _ _ c.text-line.ensures.value (cons-same _ _ _ _ c.text-region.ensures.value refl))))))))))

pub returns-clause-fits : goal.returns-clause-fits
returns-clause-fits g c =
    ok_given _ (Fits LEG (leg_said c.args.self.now)) (tt, ((tt, (((tt, (halt_fits c.args.self.now.board c.args.self.now.board_name c.args.self.now.departs c.text-board.ensures.well c.escape-board_name.ensures.well c.text.ensures.well, tt)), ((tt, (halt_fits c.args.self.now.alight c.args.self.now.alight_name c.args.self.now.arrives c.text-alight.ensures.well c.escape-alight_name.ensures.well c.text-2.ensures.well, tt)), service_fits c.args.self.now.day c.args.self.now.journey c.args.self.now.line c.args.self.now.region c.text-3.ensures.from c.text-3.ensures.to c.text-journey.ensures.well c.text-line.ensures.well c.text-region.ensures.well)), tt)), tt))
