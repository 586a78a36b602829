-- The exchange points of a timetable that was read.
use Rattle.std.specs.Prelude.{◌≡◌, ◌≢◌, ◌≤◌, Bool, true, List, length}
use Rattle.ojp_values.specs.Limits.{IsWellPoint}
use Rattle.ojp_values.specs.Lists.{Each, IsRising}
use Rattle.ojp_values.specs.Texts.{Text, is_exchange, text_lt}
use Rattle.ojp_values.specs.declared.trips.Neighbour.{Neighbour}
use Rattle.ojp_values.specs.declared.trips.Point.{Point}

-- points are ordered by their references
abbrev pub point_lt : Point → Point → Bool
point_lt x y = text_lt x.stop y.stop

-- neighbours are ordered by their codes
abbrev pub neighbour_lt : Neighbour → Neighbour → Bool
neighbour_lt x y = text_lt x.code y.code

-- the entry is an exchange point of the region, with rising neighbours other than the region
pub record IsPointOf (region : Text) (point : Point) : Type 0 where
  pub of_region : point.region ≡ region
  pub exchange : is_exchange point.stop ≡ true
  pub rising : IsRising neighbour_lt point.neighbours
  pub others : Each (λ (neighbour : Neighbour). neighbour.code ≢ region) point.neighbours

-- at most 255 exchange points of the region, which rise by reference, each with at most 31 neighbours and with
-- change times from 1 to 7,200
pub record AreWellPoints (region : Text) (points : List Point) : Type 0 where
  pub few : length points ≤ 255
  pub each : Each (IsPointOf region) points
  pub bounded : Each IsWellPoint points
  pub rising : IsRising point_lt points
