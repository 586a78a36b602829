use Rattle.std.proofs.Common.{◌≡◌, ◌∙◌, ap, refl, map, ◌++◌, ◌∷◌, [], false}
use Rattle.std.specs.List.{list_any}
use Rattle.std.proofs.lemmas.List.{map-append}
use Rattle.indexmap.proofs.CallerLemmas.{insert_entry-new}
use Rattle.ojp_values.specs.Texts.{same}
use Rattle.ojp_timetable.specs.Tables.{Service}
use Rattle.ojp_timetable.specs.Contents.{Contents, has_service}
use Rattle.ojp_timetable.specs.Kept.{service_kept}
use Rattle.ojp_timetable.proofs.MapFacts.{absent_kept}
use Rattle.ojp_timetable.proofs.draft.Draft.add_service.Goals as goal

pub returns-clause-value : goal.returns-clause-value
unfolding has_service same
returns-clause-value c =
    let v = c.self.view_is in
    let m = c.self.inside.services in
    let absent : list_any (λ (service : Service). same c.args.id.now service.id) (map service_kept m.entries) ≡ false =
    ap (λ (contents : Contents). has_service contents c.args.id.now) v ∙ c.requires in
    let none = absent_kept _ (λ (service : Service). same c.args.id.now service.id) service_kept (λ _. refl) m.entries absent in
    let entries = c.in-Ok.ensures.entries ∙ insert_entry-new _ m c.args.id.now c.args.dates.now none in
    let service : Service = service_kept (c.args.id.now, c.args.dates.now) in
    let services : map service_kept c.insert.new.self.entries ≡ c.args.self.now.services ++ service ∷ [] =
    ap (map service_kept) entries ∙ (map-append service_kept m.entries ((c.args.id.now, c.args.dates.now) ∷ []) ∙ ap (λ (contents : Contents). contents.services ++ service ∷ []) v) in
    λ i. record {
      region = (v i).region;
      zone = (v i).zone;
      places = (v i).places;
      points = (v i).points;
      services = services i;
      journeys = (v i).journeys;
    }
