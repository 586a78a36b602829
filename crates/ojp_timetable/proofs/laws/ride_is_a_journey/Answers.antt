use Rattle.std.proofs.Common.{refl, inl, lit≤}
use Rattle.ojp_timetable.specs.Runs.{IsLeg}
use Rattle.ojp_timetable.specs.Examples.{small, ride}
use Rattle.ojp_timetable.proofs.ExampleFacts.{ride_is_leg, apart}
use Rattle.ojp_timetable.proofs.laws.ride_is_a_journey.Goals as goal

pub returns : goal.returns
returns c noons h =
    let leg : IsLeg (small noons) ride = ride_is_leg noons h in (
      (apart, lit≤ tt, (leg, refl, lit≤ tt, tt, (refl, refl))),
      (apart, lit≤ tt, (small noons, inl refl, leg), refl, lit≤ tt, tt, (refl, refl), (apart, tt)),
    )
