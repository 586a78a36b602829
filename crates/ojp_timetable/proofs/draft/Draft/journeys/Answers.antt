use Rattle.std.proofs.Common.{◌∙◌, ap, sym, length}
use Rattle.ojp_timetable.specs.Contents.{Contents}
use Rattle.ojp_timetable.proofs.CallRowFacts.{length-journeys_of}
use Rattle.ojp_timetable.proofs.draft.Draft.journeys.Goals as goal

pub returns : goal.returns
returns c =
    c.len.ensures.len ∙ (sym (length-journeys_of c.self.inside.journeys.entries c.self.inside.stops.calls) ∙ ap (λ (contents : Contents). length contents.journeys) c.self.view_is)
