use Rattle.std.proofs.Common.{◌∙◌, ap, refl}
use Rattle.ojp_values.specs.Texts.{same}
use Rattle.ojp_timetable.specs.Contents.{Contents, has_journey}
use Rattle.ojp_timetable.proofs.CallRowFacts.{any_journey}
use Rattle.ojp_timetable.proofs.draft.Draft.has_journey.Goals as goal

pub returns : goal.returns
unfolding has_journey same
returns c =
    c.contains_key.ensures ∙ (any_journey _ c.args.id.now (λ _. refl) c.self.inside.journeys.entries c.self.inside.stops.calls
    ∙ ap (λ (contents : Contents). has_journey contents c.args.id.now) c.self.view_is)
