use Rattle.std.proofs.Common.{◌∙◌, ap, refl}
use Rattle.ojp_values.specs.Texts.{same}
use Rattle.ojp_timetable.specs.Tables.{Service}
use Rattle.ojp_timetable.specs.Contents.{Contents, has_service}
use Rattle.ojp_timetable.specs.Kept.{service_kept}
use Rattle.ojp_timetable.proofs.MapFacts.{any_kept}
use Rattle.ojp_timetable.proofs.draft.Draft.has_service.Goals as goal

pub returns : goal.returns
unfolding has_service same
returns c =
    c.contains_key.ensures ∙ (any_kept _ (λ (service : Service). same c.args.id.now service.id) service_kept (λ _. refl) c.self.inside.services.entries
    ∙ ap (λ (contents : Contents). has_service contents c.args.id.now) c.self.view_is)
