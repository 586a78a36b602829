use Rattle.std.proofs.Common.{◌∙◌, ap, refl, sym, subst, map, ◌++◌, ◌∷◌, [], List}
use Rattle.std.proofs.lemmas.List.{map-append}
use Rattle.indexmap.proofs.CallerLemmas.{insert_entry-new}
use Rattle.std.specs.Prelude.{bytes_eq}
use Rattle.ojp_values.specs.Texts.{Text}
use Rattle.ojp_timetable.specs.Tables.{Place}
use Rattle.ojp_timetable.specs.Kept.{AreAtPlaces, StopsAndCalls, call_kept, place_kept}
use Rattle.ojp_timetable.specs.declared.kept.PlaceFacts.{PlaceFacts}
use Rattle.ojp_timetable.proofs.MapFacts.{absent_kept}
use Rattle.ojp_timetable.proofs.StopFacts.{at-more-kept, calls-more-kept}
use Rattle.std.specs.List.{list_any}
use Rattle.ojp_timetable.proofs.stops.Stops.push.Goals as goal

pub invariant_of-self-2 : goal.invariant_of-self-2
invariant_of-self-2 c =
    let m = c.self.inside.facts in
    let facts : PlaceFacts = record { change = c.args.change; name = c.args.name.now } in
    let absent = ap (λ (s : StopsAndCalls). list_any (λ (place : Place). bytes_eq c.args.stop.now place.stop) s.places) c.self.view_is ∙ c.requires in
    let none = absent_kept _ (λ (place : Place). bytes_eq c.args.stop.now place.stop) place_kept (λ _. refl) m.entries absent in
    let entries = c.in-Ok.ensures.entries ∙ insert_entry-new _ m c.args.stop.now facts none in
    subst (λ (es : List (Text × PlaceFacts)). AreAtPlaces (map place_kept es) c.self.inside.kept.items) (sym entries) (at-more-kept m.entries (c.args.stop.now, facts) c.self.inside.kept.items c.self.invariant)

pub returns-clause-added : goal.returns-clause-added
returns-clause-added c =
    let m = c.self.inside.facts in
    let facts : PlaceFacts = record { change = c.args.change; name = c.args.name.now } in
    let absent = ap (λ (s : StopsAndCalls). list_any (λ (place : Place). bytes_eq c.args.stop.now place.stop) s.places) c.self.view_is ∙ c.requires in
    let none = absent_kept _ (λ (place : Place). bytes_eq c.args.stop.now place.stop) place_kept (λ _. refl) m.entries absent in
    let entries = c.in-Ok.ensures.entries ∙ insert_entry-new _ m c.args.stop.now facts none in
    let place : Place = place_kept (c.args.stop.now, facts) in
    ap (λ (es : List (Text × PlaceFacts)). map place_kept es) entries ∙ (map-append place_kept m.entries ((c.args.stop.now, facts) ∷ []) ∙ ap (λ (s : StopsAndCalls). s.places ++ place ∷ []) c.self.view_is)

pub returns-clause-calls : goal.returns-clause-calls
returns-clause-calls c =
    let m = c.self.inside.facts in
    let facts : PlaceFacts = record { change = c.args.change; name = c.args.name.now } in
    let absent = ap (λ (s : StopsAndCalls). list_any (λ (place : Place). bytes_eq c.args.stop.now place.stop) s.places) c.self.view_is ∙ c.requires in
    let none = absent_kept _ (λ (place : Place). bytes_eq c.args.stop.now place.stop) place_kept (λ _. refl) m.entries absent in
    let entries = c.in-Ok.ensures.entries ∙ insert_entry-new _ m c.args.stop.now facts none in
    ap (λ (es : List (Text × PlaceFacts)). map (call_kept (map place_kept es)) c.self.inside.kept.items) entries
    ∙ (calls-more-kept m.entries (c.args.stop.now, facts) c.self.inside.kept.items c.self.invariant ∙ ap (λ (s : StopsAndCalls). s.calls) c.self.view_is)
