-- Links to which regions were added, each count of which starts at 0.
use Rattle.std.specs.Prelude.{◌≡◌, ℕ, ◌<◌, List, length, map, Some}
use Rattle.ojp_outside.specs.Causes.{Rests}
use Rattle.ojp_values.specs.Texts.{Text}
use Rattle.ojp_timetable.specs.Tables.{Timetable}
use Rattle.ojp_links.specs.Seen.{Station, View, TellsTables}
use Rattle.ojp_regions.specs.declared.line.RegionLine.{RegionLine}
use Rattle.ojp_turns.specs.Faults.{FaultRose}

-- a region that is added: its code, and where its server listens
abbrev pub station_at : Text → Text → ℕ → Station
station_at code host port = record { code = code; address = Some (record { host = host; port = port }) }

-- the region of a line
abbrev pub station_of : RegionLine → Station
station_of region = station_at region.code region.host region.port

-- the links have just these regions, in their order, each with its code, its host and its port
abbrev pub HasStations : List RegionLine → View → Type 0
HasStations regions v = v.fixed.stations ≡ map station_of regions

-- the links with their regions as they were added: each count was 0
abbrev pub as_added : View → View
as_added v = record v { faults = λ region. 0; rejections = λ region. 0 }

-- the count of faults of the region with the code rose since it was added
abbrev pub HasFailed : View → Text → Type 0
HasFailed v code = FaultRose (as_added v) v code

-- no region's count of faults rose since it was added
abbrev pub HasFailedNone : View → Type 0
HasFailedNone v = (region : ℕ) → region < length v.fixed.stations → Rests 0 (v.faults region)

-- no region's count of rejections rose since it was added
abbrev pub HasRejectedNone : View → Type 0
HasRejectedNone v = (region : ℕ) → region < length v.fixed.stations → v.rejections region ≡ 0

-- the same, where timetables are told
abbrev pub HasRejectedNoneTold : View → Type 0
HasRejectedNoneTold v = (tables : List Timetable) → TellsTables v tables → HasRejectedNone v

-- the same, where servers are told
abbrev pub HasRejectedNoneServed : View → Type 0
HasRejectedNoneServed v = (tables : List Timetable) → v.fixed.servers ≡ Some tables → HasRejectedNone v
