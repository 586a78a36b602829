use Rattle.std.proofs.Common.{refl}
use Rattle.ojp_values.specs.Texts.{same}
use Rattle.ojp_timetable.proofs.laws.out_and_back_is_none.Goals as goal

pub returns : goal.returns
unfolding same
returns c tables o t d a (differ, within, ride, boards, leaves, follow, ends, rows) = rows.1.0 refl
