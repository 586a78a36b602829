-- The ride of the small timetable.
use Rattle.std.proofs.Common.{◌≡◌, ◌≢◌, ℕ, List, refl, arith, inl, ap, codes, lit≤, lit<, slice_index}
use Rattle.ojp_values.specs.Texts.{same}
use Rattle.ojp_timetable.specs.Tables.{place_of}
use Rattle.ojp_timetable.specs.Runs.{IsLeg, RunsOn, moment, leg_of}
use Rattle.ojp_timetable.specs.Examples.{small, daily, first_journey, leaving, arriving, ride, IsInUtc}

runs : (noons : List ℕ) → RunsOn (small noons) 0 19849
runs noons = record { dates = daily; at = refl; first = lit≤ tt; last = lit≤ tt; marked = refl; low = lit≤ tt; high = lit≤ tt }

is_leg : (noons : List ℕ) → IsInUtc noons → ride ≡ leg_of (small noons) first_journey 19849 (codes "AA:a") 29400 (codes "AA:b") 30000
unfolding moment place_of same
is_leg noons h = rw h refl

pub ride_is_leg : (noons : List ℕ) → IsInUtc noons → IsLeg (small noons) ride
ride_is_leg noons h =
    record {
      journey = first_journey;
      day = 19849;
      i = 0;
      j = 1;
      board = leaving;
      alight = arriving;
      leaves = 29400;
      comes = 30000;
      of_table = inl refl;
      runs = runs noons;
      later = lit< tt;
      board_at = refl;
      alight_at = refl;
      leaves_at = refl;
      comes_at = refl;
      is = is_leg noons h;
    }

pub apart : codes "AA:a" ≢ codes "AA:b"
apart e = omega (arith, ap (λ (l : List ℕ). slice_index l 3) e)
