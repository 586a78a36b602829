use Rattle.ojp_timetable.proofs.RefusalFacts.{one_refusal}
use Rattle.ojp_timetable.proofs.laws.refusal_is_one.Goals as goal

pub returns : goal.returns
returns c bytes line other reason why first second = one_refusal bytes line other reason why first second
