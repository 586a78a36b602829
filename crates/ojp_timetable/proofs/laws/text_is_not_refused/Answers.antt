use Rattle.ojp_timetable.proofs.RefusalFacts.{text_not_refused}
use Rattle.ojp_timetable.proofs.laws.text_is_not_refused.Goals as goal

pub returns : goal.returns
returns c bytes table line reason text refused = text_not_refused bytes table line reason text refused
