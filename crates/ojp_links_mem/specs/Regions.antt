-- Regions that can be asked.
use Rattle.std.specs.Prelude.{◌≡◌, ◌≢◌, ◌≤◌, ℕ, suc, List, [], ◌∷◌, Option, Some, None, option_map, slice_get, slice_index, string_bytes}
use Rattle.ojp_outside.specs.Causes.{next_count}
use Rattle.ojp_timetable.specs.Tables.{Timetable}
use Rattle.ojp_links.specs.Seen.{Address, Station}
use Rattle.ojp_links_mem.specs.declared.regions.Region.{Region}
use Rattle.ojp_links_mem.specs.declared.regions.Address.{Address as Added}

-- where a region was added
abbrev pub address_of : Added → Address
address_of added = record { host = string_bytes added.host; port = added.port }

-- what is seen of a region
abbrev pub station_of : Region → Station
station_of region = record { code = region.code; address = option_map address_of region.address }

-- how often the region's link failed
abbrev pub fault_count : Region → ℕ
fault_count region = region.faults

-- how often its replies were rejected
abbrev pub rejection_count : Region → ℕ
rejection_count region = region.rejections

-- the number of its timetable, if it has one
abbrev pub number_of_table : Region → Option ℕ
number_of_table region = region.table

-- the count of the region with the number
abbrev pub count_at : List ℕ → ℕ → ℕ
count_at counts region = slice_index counts region

-- the timetable that answers for a region, if there is one
abbrev pub table_at : List Timetable → Option ℕ → Option Timetable
table_at tables None = None
table_at tables (Some number) = slice_get tables number

-- the list with one more in front, if there is one
abbrev pub in_front : Option Timetable → List Timetable → List Timetable
in_front None tables = tables
in_front (Some table) tables = table ∷ tables

-- the timetables of the regions that have one
abbrev pub tables_of : List Timetable → List Region → List Timetable
tables_of tables [] = []
tables_of tables (region ∷ regions) = in_front (table_at tables region.table) (tables_of tables regions)

-- the region with this timetable, before any call
abbrev pub region_at : ℕ → Timetable → Region
region_at number table = record { code = table.region; address = None; table = Some number; faults = 0; rejections = 0 }

-- the regions of these timetables, whose numbers begin with this one
abbrev pub regions_from : ℕ → List Timetable → List Region
regions_from number [] = []
regions_from number (table ∷ tables) = region_at number table ∷ regions_from (suc number) tables

-- the region after one more fault
abbrev pub faulted : Region → Region
faulted region = record region { faults = next_count region.faults }

-- the region after one more fault, which was a rejection
abbrev pub rejected : Region → Region
rejected region = record region { faults = next_count region.faults; rejections = next_count region.rejections }

-- the region's count of faults is one that does not fall
abbrev pub DoesNotFall : Region → Type 0
DoesNotFall region = region.faults ≤ next_count region.faults

-- the region with the number is changed so, and the others stay
pub record ChangesAt (change : Region → Region) (old new : List Region) (at : ℕ) : Type 0 where
  pub here : slice_get new at ≡ option_map change (slice_get old at)
  pub others : (other : ℕ) → other ≢ at → slice_get new other ≡ slice_get old other
