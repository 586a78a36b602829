use Rattle.std.proofs.Common.{List, [], ◌∷◌, ◌+◌, refl, ap, ◌∙◌, arith, All}
use Rattle.ojp_tables.specs.declared.names.TheConstants as names
use Rattle.ojp_values.specs.declared.kinds.Kind.TheVariants as kinds
use Rattle.ojp_grammar.specs.Items.{text, tag}
use Rattle.ojp_grammar.specs.Fields.{field_text}
use Rattle.ojp_grammar.specs.Syntax.{Fits}
use Rattle.ojp_grammar.specs.Syntax as syntax
use Rattle.ojp_grammar.specs.Grammar.{REF, NEIGHBOUR, POINT}
use Rattle.ojp_grammar.specs.Documents.{neighbour_said, point_said}
use Rattle.ojp_values.specs.declared.trips.Neighbour.{Neighbour}
use Rattle.ojp_encode.specs.Writing.{spelling}
use Rattle.ojp_encode.proofs.Filling.{Writes-list, cons-same}
use Rattle.ojp_encode.proofs.Sequences.{Writes-same}
use Rattle.ojp_encode.proofs.Fitting.{ok_then, list_fits}
use Rattle.ojp_encode.proofs.points.PointSpelled.put.Goals as goal

pub returns-clause-spelled : goal.returns-clause-spelled
unfolding spelling text field_text
returns-clause-spelled g c =
    Writes-same _ _ _ _ _ _ _
    (Writes-list (syntax.both (syntax.text names.EXCHANGE_POINT) (syntax.both (syntax.leaf names.OPERATOR_REF kinds.Code) (syntax.both REF (syntax.leaf names.TRANSFER_DURATION kinds.Change)))) (tt, ((tt, c.args.self.now.region), ((tt, c.args.self.now.stop), (tt, c.args.self.now.change)))) NEIGHBOUR neighbour_said c.as_slice-neighbours.result.now (tag (names.EXCHANGE_POINT + 1) ∷ []) _ _ _ _ _ (c.text-region.result.now ∷ c.text-stop.result.now ∷ c.as_bytes-change.result.now ∷ []) c.put_list.ensures.spelled (cons-same _ _ _ _ c.text-region.ensures.value (cons-same _ _ _ _ c.text-stop.ensures.value (cons-same _ _ _ _ (c.as_bytes-change.ensures.value ∙ c.format.ensures.text) refl))))
    (ap (λ (l : List Neighbour). spelling POINT (point_said (record c.args.self.now { neighbours = l }))) c.as_slice-neighbours.ensures)

pub returns-clause-fits : goal.returns-clause-fits
returns-clause-fits g c =
    let each : All (λ (x : Neighbour). Fits NEIGHBOUR (neighbour_said x)) c.as_slice-neighbours.result.now → Fits POINT (point_said c.args.self.now) = λ h. (tt, ((tt, c.text-region.ensures.well), ((tt, c.text-stop.ensures.well), ((tt, c.requires.0), list_fits 0 31 NEIGHBOUR (syntax.text (names.EXCHANGE_POINT + 1)) neighbour_said c.as_slice-neighbours.result.now c.args.self.now.neighbours tt c.as_slice-neighbours.ensures (omega arith) c.requires.1 tt h)))) in
    ok_then _ (All (λ (x : Neighbour). Fits NEIGHBOUR (neighbour_said x)) c.as_slice-neighbours.result.now) (Fits POINT (point_said c.args.self.now)) each c.put_list.ensures.fits
