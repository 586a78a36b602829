use Rattle.ojp_timetable.specs.Answers.{RegionAnswers}
use Rattle.ojp_links.specs.declared.expect.Expect.TheVariants as expects
use Rattle.ojp_links.proofs.ServedFacts.{delivered, is_reply, not_hopeless}
use Rattle.ojp_links.proofs.laws.sure_is_never_hopeless.Goals as goal

pub returns : goal.returns
returns c table request taken out ask ended well sure asked serves front whole hopeless =
    let d = delivered c.one_spelling.ensures c.a_body_is_the_only_outcome.ensures (RegionAnswers table) ask request out asked serves in
    not_hopeless (expects.Region table.region ask) taken out ended d.delivery
    (is_reply c.an_answer_is_a_reply.ensures c.documents_are_short.ensures (RegionAnswers table) ask out d)
    (c.answers_fit.ensures table ask d.delivery well sure d.relates)
    front
    whole
    hopeless
