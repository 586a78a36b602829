use Rattle.std.proofs.Common.{◌∙◌, ap, refl}
use Rattle.std.specs.Prelude.{bytes_eq, position}
use Rattle.std.specs.List.{list_any}
use Rattle.ojp_timetable.specs.Tables.{Place}
use Rattle.ojp_timetable.specs.Kept.{StopsAndCalls, place_kept}
use Rattle.ojp_timetable.proofs.MapFacts.{any_kept, position_kept}
use Rattle.ojp_timetable.proofs.stops.Stops.number_of.Goals as goal

pub returns-clause-first : goal.returns-clause-first
returns-clause-first c =
    c.get_index_of.ensures.index ∙ (position_kept _ (λ (place : Place). bytes_eq c.args.text.now place.stop) place_kept (λ _. refl) c.self.inside.facts.entries
    ∙ ap (λ (s : StopsAndCalls). position (λ (place : Place). bytes_eq c.args.text.now place.stop) s.places) c.self.view_is)

pub returns-clause-known : goal.returns-clause-known
returns-clause-known c =
    c.get_index_of.ensures.found ∙ (any_kept _ (λ (place : Place). bytes_eq c.args.text.now place.stop) place_kept (λ _. refl) c.self.inside.facts.entries
    ∙ ap (λ (s : StopsAndCalls). list_any (λ (place : Place). bytes_eq c.args.text.now place.stop) s.places) c.self.view_is)
