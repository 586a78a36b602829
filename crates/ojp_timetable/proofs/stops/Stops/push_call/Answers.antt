use Rattle.std.proofs.Common.{◌∙◌, ap, sym, subst, map, ◌++◌, ◌∷◌, [], List}
use Rattle.std.proofs.lemmas.List.{map-append}
use Rattle.ojp_timetable.specs.Kept.{AreAtPlaces, IsKeptByNumber, StopsAndCalls, call_kept, place_kept}
use Rattle.ojp_timetable.specs.declared.kept.KeptCall.{KeptCall}
use Rattle.ojp_timetable.proofs.StopFacts.{at-push}
use Rattle.ojp_timetable.proofs.stops.Stops.push_call.Goals as goal

pub invariant_of-self-2 : goal.invariant_of-self-2
invariant_of-self-2 c =
    let places = map place_kept c.self.inside.facts.entries in
    let call = c.args.kept.now in
    let at : IsKeptByNumber places call = subst (λ (s : StopsAndCalls). IsKeptByNumber s.places call) (sym c.self.view_is) c.requires in
    subst (λ (kept : List KeptCall). AreAtPlaces places kept) (sym c.in-Ok.ensures.items) (at-push places c.self.inside.kept.items call c.self.invariant at)

pub returns-clause-added : goal.returns-clause-added
returns-clause-added c =
    let places = map place_kept c.self.inside.facts.entries in
    let items = c.self.inside.kept.items in
    let call = c.args.kept.now in
    ap (λ (all : List KeptCall). map (call_kept places) all) c.in-Ok.ensures.items
    ∙ (map-append (call_kept places) items (call ∷ []) ∙ ap (λ (s : StopsAndCalls). s.calls ++ call_kept s.places call ∷ []) c.self.view_is)
