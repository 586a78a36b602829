use Rattle.std.proofs.Common.{◌∙◌, ap, sym}
use Rattle.std.specs.Prelude.{option_map, slice_get}
use Rattle.std.proofs.lemmas.Option.{slice_get-map}
use Rattle.ojp_timetable.specs.Kept.{StopsAndCalls, place_kept}
use Rattle.ojp_timetable.specs.Views.{place_view}
use Rattle.ojp_timetable.proofs.stops.Stops.place_at.Goals as goal

pub returns-in-None : goal.returns-in-None
returns-in-None c =
    sym (ap (option_map place_view) (ap (λ (s : StopsAndCalls). slice_get s.places c.args.i) (sym c.self.view_is)
    ∙ (slice_get-map place_kept c.self.inside.facts.entries c.args.i ∙ ap (option_map place_kept) (sym c.in-None.ensures.entry))))
