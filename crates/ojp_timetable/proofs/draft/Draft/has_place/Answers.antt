use Rattle.std.proofs.Common.{◌∙◌, ap}
use Rattle.ojp_values.specs.Texts.{same}
use Rattle.ojp_timetable.specs.Contents.{Contents, has_place}
use Rattle.ojp_timetable.proofs.draft.Draft.has_place.Goals as goal

pub returns : goal.returns
unfolding has_place same
returns c = c.has.ensures ∙ ap (λ (contents : Contents). has_place contents c.args.stop.now) c.self.view_is
