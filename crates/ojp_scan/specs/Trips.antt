-- Trips that are made of the legs of a journey.
use Rattle.std.specs.Prelude.{◌≡◌, ℕ, ◌+◌, ◌≤◌, List, ◌∷◌, length}
use Rattle.ojp_values.specs.Texts.{Text}
use Rattle.ojp_values.specs.declared.trips.Leg.{Leg}
use Rattle.ojp_timetable.specs.Tables.{Timetable}
use Rattle.ojp_timetable.specs.Runs.{day_long}
use Rattle.ojp_scan.specs.declared.scans.Scan.{Scan}
use Rattle.ojp_scan.specs.Scans.{IsScanOf}

-- the scan was started in the table
pub record IsStarted (scan : Scan) (table : Timetable) : Type 0 where
  pub origin : Text
  pub start : ℕ
  pub scan_of : IsScanOf scan table origin start

-- there is a first leg, and the legs are within a day that ends at the moment
pub record IsWithinDay (legs : List Leg) (end : ℕ) : Type 0 where
  pub first : Leg
  pub rest : List Leg
  pub is : legs ≡ first ∷ rest
  pub count : length legs ≤ 86401
  pub forward : first.departs ≤ end
  pub within : end ≤ first.departs + day_long
