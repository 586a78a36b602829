use Rattle.std.proofs.Common.{◌≡◌, sym, ◌∙◌, ap, refl, ◌++◌, ◌∷◌, [], subst, length, List}
use Rattle.indexmap.proofs.CallerLemmas.{insert_entry-new}
use Rattle.ojp_values.specs.Texts.{Text, same}
use Rattle.ojp_timetable.specs.Tables.{Journey}
use Rattle.ojp_timetable.specs.Contents.{Contents, has_journey}
use Rattle.ojp_timetable.specs.Kept.{AreInRow, journeys_of}
use Rattle.ojp_timetable.specs.declared.kept.Head.{Head}
use Rattle.ojp_timetable.proofs.CallRowFacts.{absent_journey, head-row, in_row-head}
use Rattle.ojp_timetable.proofs.draft.Draft.add_journey_of.Goals as goal

pub invariant_of-self-2 : goal.invariant_of-self-2
unfolding has_journey same
invariant_of-self-2 c =
    let m = c.self.inside.journeys in
    let none = absent_journey _ c.args.id.now (λ _. refl) m.entries c.self.inside.stops.calls (ap (λ (contents : Contents). has_journey contents c.args.id.now) c.self.view_is ∙ c.requires) in
    let entries = c.in-Ok.ensures.entries ∙ insert_entry-new _ m c.args.id.now _ none in
    subst (λ (es : List (Text × Head)). AreInRow es (length c.self.inside.stops.calls)) (sym entries) (in_row-head m.entries (length c.self.inside.stops.calls) _ c.calls.ensures c.self.invariant)

pub returns-clause-value : goal.returns-clause-value
unfolding has_journey same
returns-clause-value c =
    let v = c.self.view_is in
    let m = c.self.inside.journeys in
    let calls = c.self.inside.stops.calls in
    let none = absent_journey _ c.args.id.now (λ _. refl) m.entries calls (ap (λ (contents : Contents). has_journey contents c.args.id.now) v ∙ c.requires) in
    let entries = c.in-Ok.ensures.entries ∙ insert_entry-new _ m c.args.id.now _ none in
    let journey : Journey = record { id = c.args.id.now; line = c.args.line.now; service = c.args.service; calls = [] } in
    let journeys : journeys_of c.insert.new.self.entries calls ≡ c.args.self.now.journeys ++ journey ∷ [] =
    ap (λ (es : List (Text × Head)). journeys_of es calls) entries
    ∙ (head-row m.entries calls _ c.calls.ensures c.self.invariant ∙ ap (λ (contents : Contents). contents.journeys ++ journey ∷ []) v) in
    λ i. record {
      region = (v i).region;
      zone = (v i).zone;
      places = (v i).places;
      points = (v i).points;
      services = (v i).services;
      journeys = journeys i;
    }
