use Rattle.ojp_timetable.proofs.AnswerFacts.{answer_bounded}
use Rattle.ojp_timetable.proofs.laws.answers_are_bounded.Goals as goal

pub returns : goal.returns
returns c table ask delivery well answered = answer_bounded table ask delivery well answered
