-- What regions and asks keep, and what is seen of them.
use Rattle.std.specs.Prelude.{◌≡◌, ◌<◌, ℕ, Some, length, map}
use Rattle.ojp_links.specs.Seen.{AreDistinct, Live, code_of_station}
use Rattle.ojp_links_net.specs.Pending.{live_in}
use Rattle.ojp_links_net.specs.Regions.{RegionsView, station_of}
use Rattle.ojp_links_net.specs.Table.{TableView}
use Rattle.ojp_links_net.specs.declared.regions.Regions.TheInside.{Inside as RegionsInside}
use Rattle.ojp_links_net.specs.declared.table.Table.TheInside.{Inside as TableInside}

abbrev pub regions_of : RegionsInside → RegionsView
regions_of r = record { stations = map station_of r.places.items; faults = r.faults.items; rejections = r.rejections.items }

-- each region has both its counts and a code of its own
pub record AreCounted (r : RegionsInside) : Type 0 where
  pub faults_each : length r.faults.items ≡ length r.places.items
  pub rejections_each : length r.rejections.items ≡ length r.places.items
  pub distinct : AreDistinct (map code_of_station (map station_of r.places.items))

abbrev pub table_of : TableInside → TableView
table_of t = record { regions = t.regions; asks = t.asks; made = t.made }

-- each live ask is of a region
abbrev pub AreOfRegions : TableInside → Type 0
AreOfRegions t = (key : ℕ) (ask : Live) → live_in t.asks key ≡ Some ask → ask.region < length t.regions.stations
