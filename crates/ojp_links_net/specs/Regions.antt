-- Regions that can be asked, with their counts.
use Rattle.std.specs.Prelude.{◌≡◌, ◌≢◌, ◌≤◌, ◌<◌, ◌++◌, ℕ, List, [], ◌∷◌, Some, length, map, slice_index, string_bytes}
use Rattle.ojp_values.specs.Texts.{Text}
use Rattle.ojp_links.specs.Seen.{Station, code_in, code_of_station}
use Rattle.ojp_links.specs.declared.links.More.{More}
use Rattle.ojp_links.specs.declared.links.More.TheVariants as mores
use Rattle.ojp_links_net.specs.Counting.{CountsOne}
use Rattle.ojp_links_net.specs.declared.regions.Endpoint.{Endpoint}

-- the regions by their numbers, and the counts of each
pub record RegionsView : Type 0 where
  pub stations : List Station
  pub faults : List ℕ
  pub rejections : List ℕ

abbrev pub no_regions : RegionsView
no_regions = record { stations = []; faults = []; rejections = [] }

-- the region with the code, which listens there
abbrev pub station_at : Text → Text → ℕ → Station
station_at name at door = record { code = name; address = Some (record { host = at; port = door }) }

-- what is seen of a region
abbrev pub station_of : Endpoint → Station
station_of place = station_at place.code (string_bytes place.host) place.port

-- the count of the region; 0 where there is no region
abbrev pub count_of : List ℕ → ℕ → ℕ
count_of counts region = slice_index counts region

-- no region has the code
abbrev pub IsNewAmong : List Station → Text → Type 0
IsNewAmong stations name = (region : ℕ) → region < length stations → code_in (map code_of_station stations) region ≢ name

-- the count of the region rose by one, or stands at its end, and the others stand still
pub record CountsAt (old new : List ℕ) (at : ℕ) : Type 0 where
  pub one_more : CountsOne (count_of old) (count_of new) at
  pub later : (region : ℕ) → count_of old region ≤ count_of new region

-- a fault of the region was counted
pub record CountsFault (old new : RegionsView) (at : ℕ) : Type 0 where
  pub stations_same : new.stations ≡ old.stations
  pub faults_more : CountsAt old.faults new.faults at
  pub rejections_same : new.rejections ≡ old.rejections

-- a fault of the region was counted that was a rejection
pub record CountsRejection (old new : RegionsView) (at : ℕ) : Type 0 where
  pub stations_same : new.stations ≡ old.stations
  pub faults_more : CountsAt old.faults new.faults at
  pub rejections_more : CountsAt old.rejections new.rejections at

-- a fault is counted at a look that failed, and at no other
abbrev pub CountsLook : More → RegionsView → RegionsView → ℕ → Type 0
CountsLook mores.Failed old new at = CountsFault old new at
CountsLook mores.Got old new at = new ≡ old
CountsLook mores.NotYet old new at = new ≡ old
CountsLook mores.End old new at = new ≡ old
CountsLook mores.NoMemory old new at = new ≡ old

-- a region was added behind the others, and both its counts are 0
pub record AddsRegion (old new : RegionsView) (name at : Text) (door : ℕ) : Type 0 where
  pub behind : new.stations ≡ old.stations ++ station_at name at door ∷ []
  pub no_faults : count_of new.faults (length old.stations) ≡ 0
  pub no_rejections : count_of new.rejections (length old.stations) ≡ 0
  pub faults_same : (region : ℕ) → count_of new.faults region ≡ count_of old.faults region
  pub rejections_same : (region : ℕ) → count_of new.rejections region ≡ count_of old.rejections region
