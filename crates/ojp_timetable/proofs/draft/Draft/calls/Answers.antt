use Rattle.std.proofs.Common.{◌∙◌, ap}
use Rattle.ojp_timetable.specs.Contents.{Contents, calls_in}
use Rattle.ojp_timetable.proofs.CallRowFacts.{calls_in_row}
use Rattle.ojp_timetable.proofs.draft.Draft.calls.Goals as goal

pub returns : goal.returns
unfolding calls_in
returns c =
    c.calls.ensures ∙ (calls_in_row c.self.inside.journeys.entries c.self.inside.stops.calls c.self.invariant ∙ ap (λ (contents : Contents). calls_in contents) c.self.view_is)
