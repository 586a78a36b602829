use Rattle.std.proofs.Common.{List, ℕ, ◌≡◌, subst}
use Rattle.ojp_values.specs.declared.replies.Delivery.{Delivery}
use Rattle.ojp_timetable.specs.Answers.{RegionAnswers}
use Rattle.ojp_links.specs.Replies.{IsReplyOf}
use Rattle.ojp_links.proofs.ServedFacts.{delivered, is_reply}
use Rattle.ojp_links.proofs.laws.heard_is_given.Goals as goal

pub returns : goal.returns
returns c table request taken out ask delivery asked serves front reply =
    let d = delivered c.one_spelling.ensures c.a_body_is_the_only_outcome.ensures (RegionAnswers table) ask request out asked serves in
    let whole : IsReplyOf out d.delivery = is_reply c.an_answer_is_a_reply.ensures c.documents_are_short.ensures (RegionAnswers table) ask out d in
    let same : d.delivery ≡ delivery =
    (c.one_delivery.ensures taken front.0 delivery d.delivery reply (subst (λ (bytes : List ℕ). IsReplyOf bytes d.delivery) front.1 whole)).1 in
    subst (λ (it : Delivery). RegionAnswers table ask it) same d.relates
