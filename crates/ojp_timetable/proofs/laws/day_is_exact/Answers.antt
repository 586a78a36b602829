use Rattle.std.proofs.Common.{refl, arith, lit≤}
use Rattle.ojp_timetable.proofs.ExampleFacts.{ride_is_leg, apart}
use Rattle.ojp_timetable.proofs.laws.day_is_exact.Goals as goal

pub returns : goal.returns
returns c noons h = (
  (apart, lit≤ tt, (ride_is_leg noons h, refl, lit≤ tt, tt, (refl, refl))),
  (λ journey. omega (arith, journey.1)),
)
