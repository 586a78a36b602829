use Rattle.ojp_links_mem.specs.Files.{links_seen}
use Rattle.ojp_plan.proofs.ReadyFacts.{answered, traced}
use Rattle.ojp_plan.proofs.answering.answer_ask.Goals as goal

pub returns-in-Ok-clause-answers : goal.returns-in-Ok-clause-answers
returns-in-Ok-clause-answers g c given order l =
    answered order (links_seen c.args.files.now) (links_seen c.answer_paced-answer.new.links) c.is_sound.ensures c.is_sound-2.ensures given c.args.book.now l
    c.in-Ok.ensures.answers.keeps c.in-Ok.ensures.answers.none_rejected c.in-Ok.answer.told c.args.ask.now c.in-Ok.answer.delivery c.in-Ok.ensures.answers.answers

pub returns-in-Ok-clause-traced : goal.returns-in-Ok-clause-traced
returns-in-Ok-clause-traced g c given order l none empty =
    traced order (links_seen c.args.files.now) (links_seen c.answer_paced-answer.new.links) c.is_sound.ensures c.is_sound-2.ensures given c.args.book.now l
    c.in-Ok.ensures.answers.keeps c.in-Ok.ensures.answers.none_rejected c.args.ask.now c.args.trace.now c.answer_paced-answer.new.trace c.in-Ok.answer none empty c.in-Ok.ensures.gains c.in-Ok.ensures.traced
