use Rattle.std.proofs.Common.{subst}
use Rattle.ojp_gateway.specs.Answering.{Begins}
use Rattle.ojp_gateway.proofs.AnsweringFacts.{answers_alone, answers_by_search}
use Rattle.ojp_gateway.proofs.TraceFacts.{gains_none}
use Rattle.ojp_gateway.specs.Ordering.{TakesSearch}
use Rattle.ojp_gateway.proofs.OrderRunFacts.{traced_alone, traced_search}
use Rattle.ojp_gateway.proofs.answering.answer_paced.Goals as goal

pub returns-in-Answered-clause-answers : goal.returns-in-Answered-clause-answers
returns-in-Answered-clause-answers g c = answers_alone c.args.book.now (g.L.Links.seen c.args.links.now) c.args.ask.now c.in-Answered.answer c.requires.none_live (subst (Begins c.args.book.now c.args.ask.now) c.in-Answered.is c.in_ok-answer.ensures.begins)

pub returns-in-Search-clause-answers : goal.returns-in-Search-clause-answers
returns-in-Search-clause-answers g c =
    answers_by_search c.args.book.now (g.L.Links.seen c.args.links.now) (g.L.Links.seen c.seek_paced-outcome.new.links) c.args.ask.now c.in-Search.search c.seek_paced-outcome.new.search c.seek_paced-outcome.result c.conclude.result
    (subst (Begins c.args.book.now c.args.ask.now) c.in-Search.is c.in_ok-answer.ensures.begins) c.seek_paced-outcome.ensures.sought c.conclude.ensures

pub returns-in-Answered-clause-gains : goal.returns-in-Answered-clause-gains
returns-in-Answered-clause-gains g c = gains_none c.args.trace.now

pub returns-in-Search-clause-traced : goal.returns-in-Search-clause-traced
returns-in-Search-clause-traced g c =
    traced_search c.args.book.now (g.L.Links.seen c.args.links.now) (g.L.Links.seen c.seek_paced-outcome.new.links) c.args.ask.now c.in-Search.search c.seek_paced-outcome.new.search c.seek_paced-outcome.result c.conclude.result c.args.trace.now c.seek_paced-outcome.new.trace
    (subst (Begins c.args.book.now c.args.ask.now) c.in-Search.is c.in_ok-answer.ensures.begins) (subst (TakesSearch c.args.ask.now) c.in-Search.is c.in_ok-answer.ensures.search) c.seek_paced-outcome.ensures.ordered c.conclude.ensures

pub returns-in-Answered-clause-traced : goal.returns-in-Answered-clause-traced
returns-in-Answered-clause-traced g c =
    traced_alone c.args.book.now (g.L.Links.seen c.args.links.now) c.args.ask.now c.in-Answered.answer c.args.trace.now (subst (TakesSearch c.args.ask.now) c.in-Answered.is c.in_ok-answer.ensures.search)
