-- What a scan keeps.
use Rattle.std.specs.Prelude.{◌≡◌, ℕ, ◌≤◌, List, map, length, unwrap_or}
use Rattle.ojp_values.specs.Texts.{Text}
use Rattle.ojp_values.specs.declared.moments.TheConstants.{LAST_SECOND}
use Rattle.ojp_timetable.specs.Tables.{Timetable}
use Rattle.ojp_timetable.specs.Runs.{IsWell}
use Rattle.ojp_timetable.specs.Journeys.{ArrivesWithin}
use Rattle.ojp_sweep.specs.declared.connections.Connection.{Connection}
use Rattle.ojp_sweep.specs.Searches.{IsMade, IsSweepOf}
use Rattle.ojp_scan.specs.declared.hops.Hop.{Hop}
use Rattle.ojp_scan.specs.declared.scans.Scan.{Scan}
use Rattle.ojp_scan.specs.Networks.{place_number, IsNetworkFor, HaveNumbers}
use Rattle.ojp_scan.specs.Days.{CoverWindow, HasRoomFor, AreDaysFrom}

-- the hop of a connection
abbrev pub hop_of : Connection → Hop
hop_of connection = record { journey = connection.journey; position = connection.position }

-- the hops that the scan looks at, in their order
abbrev pub hops_of : Scan → List Hop
hops_of scan = map hop_of scan.sweep.net.sorted.items

-- the scan was made for the table
pub record IsMadeFor (scan : Scan) (table : Timetable) : Type 0 where
  pub well : IsWell table
  pub numbers : HaveNumbers scan.numbers table (length table.places)
  pub network : IsNetworkFor scan.sweep.net table
  pub sweep : IsMade scan.sweep
  pub days : HasRoomFor scan.days table

-- the scan keeps what was found in the table from the origin at the start
pub record IsScanOf (scan : Scan) (table : Timetable) (origin : Text) (start : ℕ) : Type 0 where
  pub made : IsMadeFor scan table
  -- a number past those of the places where the origin is no place
  pub origin_is : scan.asked.origin ≡ unwrap_or (place_number table origin) (length table.places)
  pub start_is : scan.asked.start ≡ start
  pub in_range : start ≤ LAST_SECOND
  pub window : CoverWindow scan.first start
  pub days : AreDaysFrom scan.days table scan.first
  pub found : IsSweepOf scan.sweep scan.days scan.asked

-- the scan was started in the table, and a journey to the stop was found
pub record IsReached (scan : Scan) (table : Timetable) (stop : Text) : Type 0 where
  pub origin : Text
  pub start : ℕ
  pub scan_of : IsScanOf scan table origin start
  pub arrival : ℕ
  pub arrives : ArrivesWithin table origin start stop arrival
