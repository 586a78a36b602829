use Rattle.ojp_plan.proofs.PlanFacts.{spelled_answer, traced_text}
use Rattle.ojp_plan.proofs.answering.answer_text.Goals as goal

pub returns-clause-answers : goal.returns-clause-answers
returns-clause-answers g c given order l =
    spelled_answer given c.args.ask.now c.in_ok-delivery.delivery c.spell.result (c.in_ok-delivery.ensures.answers given order l) c.spell.ensures

pub returns-clause-traced : goal.returns-clause-traced
returns-clause-traced g c given order l none empty = traced_text _ c.spell.result (c.in_ok-delivery.ensures.traced given order l none empty)
