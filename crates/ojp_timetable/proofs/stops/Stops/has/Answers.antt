use Rattle.std.proofs.Common.{◌∙◌, ap, refl}
use Rattle.std.specs.Prelude.{bytes_eq}
use Rattle.std.specs.List.{list_any}
use Rattle.ojp_timetable.specs.Tables.{Place}
use Rattle.ojp_timetable.specs.Kept.{StopsAndCalls, place_kept}
use Rattle.ojp_timetable.proofs.MapFacts.{any_kept}
use Rattle.ojp_timetable.proofs.stops.Stops.has.Goals as goal

pub returns : goal.returns
returns c =
    c.contains_key.ensures ∙ (any_kept _ (λ (place : Place). bytes_eq c.args.stop.now place.stop) place_kept (λ _. refl) c.self.inside.facts.entries
    ∙ ap (λ (s : StopsAndCalls). list_any (λ (place : Place). bytes_eq c.args.stop.now place.stop) s.places) c.self.view_is)
