use Rattle.ojp_timetable.proofs.LegCounts.{legs_counted}
use Rattle.ojp_timetable.proofs.laws.legs_are_bounded.Goals as goal

pub returns : goal.returns
returns c table well o t d a legs journey = legs_counted table o t d a legs well journey
