use Rattle.std.proofs.Common.{subst}
use Rattle.ojp_gateway.specs.Answering.{Begins}
use Rattle.ojp_gateway.proofs.AnsweringFacts.{answers_alone, answers_by_search}
use Rattle.ojp_gateway.proofs.waiting.answer_waiting.Goals as goal

pub returns-in-Answered : goal.returns-in-Answered
returns-in-Answered g c = answers_alone c.args.book.now (g.L.Links.seen c.args.links.now) c.args.ask.now c.in-Answered.answer c.requires.none_live (subst (Begins c.args.book.now c.args.ask.now) c.in-Answered.is c.in_ok-answer.ensures.begins)

pub returns-in-Search : goal.returns-in-Search
returns-in-Search g c =
    answers_by_search c.args.book.now (g.L.Links.seen c.args.links.now) (g.L.Links.seen c.seek_waiting-outcome.new.links) c.args.ask.now c.in-Search.search c.seek_waiting-outcome.new.search c.seek_waiting-outcome.result c.conclude.result
    (subst (Begins c.args.book.now c.args.ask.now) c.in-Search.is c.in_ok-answer.ensures.begins) c.seek_waiting-outcome.ensures c.conclude.ensures
