use Rattle.std.proofs.Common.{◌≡◌, Some, refl, arith, lit≤}
use Rattle.ojp_values.specs.Texts.{same}
use Rattle.ojp_timetable.specs.Tables.{place_of}
use Rattle.ojp_timetable.proofs.laws.change_is_exact.Goals as goal

pub returns : goal.returns
unfolding same place_of
returns c noons = ((60, refl, lit≤ tt), λ time. let is : Some 60 ≡ Some time.0 = time.1 in let value : 60 ≡ time.0 = cc in omega (arith, time.2))
