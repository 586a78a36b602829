use Rattle.std.proofs.Common.{◌∙◌, ap, refl}
use Rattle.std.specs.Prelude.{option_map, find, bytes_eq}
use Rattle.ojp_timetable.specs.Tables.{Place}
use Rattle.ojp_timetable.specs.Kept.{StopsAndCalls, facts_of}
use Rattle.ojp_timetable.proofs.MapFacts.{find_place}
use Rattle.ojp_timetable.proofs.stops.Stops.facts.Goals as goal

pub returns : goal.returns
returns c =
    c.copied.ensures ∙ (c.get.ensures.value ∙ (find_place _ c.args.stop.now (λ _. refl) c.self.inside.facts.entries
    ∙ ap (λ (s : StopsAndCalls). option_map facts_of (find (λ (place : Place). bytes_eq c.args.stop.now place.stop) s.places)) c.self.view_is))
