use Rattle.std.proofs.Common.{◌∙◌, ap, slice_get}
use Rattle.std.specs.Prelude.{option_map}
use Rattle.ojp_values.specs.Texts.{Text}
use Rattle.ojp_timetable.specs.Contents.{Contents}
use Rattle.ojp_timetable.specs.Tables.{Journey}
use Rattle.ojp_timetable.specs.declared.kept.Head.{Head}
use Rattle.ojp_timetable.proofs.KeptFacts.{service_kept_at}
use Rattle.ojp_timetable.proofs.draft.Draft.service_at.Goals as goal

pub returns-in-None : goal.returns-in-None
returns-in-None c =
    ap (option_map (λ (entry : Text × Head). entry.1.service)) c.in-None.ensures.entry
    ∙ (service_kept_at c.self.inside.journeys.entries c.self.inside.stops.calls c.args.i c.self.invariant
    ∙ ap (λ (contents : Contents). option_map (λ (journey : Journey). journey.service) (slice_get contents.journeys c.args.i)) c.self.view_is)

pub returns-in-Some : goal.returns-in-Some
returns-in-Some c =
    ap (option_map (λ (entry : Text × Head). entry.1.service)) c.in-Some.ensures.entry
    ∙ (service_kept_at c.self.inside.journeys.entries c.self.inside.stops.calls c.args.i c.self.invariant
    ∙ ap (λ (contents : Contents). option_map (λ (journey : Journey). journey.service) (slice_get contents.journeys c.args.i)) c.self.view_is)
