use Rattle.std.proofs.Common.{refl, subst, sym, ◌∙◌, ap, slice_get, List}
use Rattle.ojp_values.specs.Texts.{Text}
use Rattle.ojp_timetable.specs.Kept.{HasNumber, StopsAndCalls}
use Rattle.ojp_timetable.specs.declared.kept.PlaceFacts.{PlaceFacts}
use Rattle.ojp_timetable.proofs.KeptFacts.{own_number}
use Rattle.ojp_timetable.proofs.stops.Stops.stop.Goals as goal

pub returns : goal.returns
returns c =
    let entries = c.self.inside.facts.entries in
    let at = ap (λ (es : List (Text × PlaceFacts)). slice_get es c.args.i) (sym c.as_slice.ensures.entries) ∙ sym c.in-Some.ensures.entry in
    subst (λ (seen : StopsAndCalls). HasNumber seen.places c.in-Some.stop.now c.args.i) c.self.view_is
    (own_number _ (λ _ _. refl) entries c.args.i _ c.as_slice.ensures.unique at)
