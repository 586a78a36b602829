use Rattle.std.proofs.Common.{◌∙◌, ap, refl}
use Rattle.std.specs.Prelude.{position}
use Rattle.ojp_values.specs.Texts.{same}
use Rattle.ojp_timetable.specs.Tables.{Journey}
use Rattle.ojp_timetable.specs.Contents.{Contents}
use Rattle.ojp_timetable.proofs.CallRowFacts.{position_row}
use Rattle.ojp_timetable.proofs.draft.Draft.journey_number.Goals as goal

pub returns : goal.returns
unfolding same
returns c =
    c.get_index_of.ensures.index ∙ (position_row _ c.args.id.now (λ _. refl) c.self.inside.journeys.entries c.self.inside.stops.calls
    ∙ ap (λ (contents : Contents). position (λ (journey : Journey). same c.args.id.now journey.id) contents.journeys) c.self.view_is)
