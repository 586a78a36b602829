use Rattle.std.proofs.Common.{◌∙◌, ap, refl}
use Rattle.ojp_values.specs.Texts.{same}
use Rattle.ojp_timetable.specs.Tables.{Service}
use Rattle.ojp_timetable.specs.Contents.{Contents, service_number}
use Rattle.ojp_timetable.specs.Kept.{service_kept}
use Rattle.ojp_timetable.proofs.MapFacts.{position_kept}
use Rattle.ojp_timetable.proofs.draft.Draft.service_number.Goals as goal

pub returns : goal.returns
unfolding service_number same
returns c =
    c.get_index_of.ensures.index ∙ (position_kept _ (λ (service : Service). same c.args.id.now service.id) service_kept (λ _. refl) c.self.inside.services.entries
    ∙ ap (λ (contents : Contents). service_number contents c.args.id.now) c.self.view_is)
