use Rattle.std.proofs.Common.{refl}
use Rattle.ojp_values.specs.Texts.{same}
use Rattle.ojp_timetable.specs.Tables.{has, point_of}
use Rattle.ojp_timetable.proofs.laws.faults_are_named.Goals as goal

pub returns : goal.returns
unfolding same has point_of
returns c noons = (refl, (refl, (refl, (refl, refl))))
