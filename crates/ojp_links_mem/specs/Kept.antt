-- What links in memory keep, and what is seen of them.
use Rattle.std.specs.Prelude.{◌≡◌, ◌≤◌, ◌<◌, ℕ, true, None, IsSome, IfSome, map, length}
use Rattle.ojp_values.specs.Lists.{Each, IsRising}
use Rattle.ojp_values.specs.Texts.{text_lt}
use Rattle.ojp_timetable.specs.Runs.{IsWell}
use Rattle.ojp_links.specs.Seen.{AreDistinct, code_of_station, region_of_table}
use Rattle.ojp_links_mem.specs.Regions.{station_of}
use Rattle.ojp_links_mem.specs.Memory.{MemView, said_in, told_tables}
use Rattle.ojp_links_mem.specs.Pending.{AreKept}
use Rattle.ojp_links_mem.specs.declared.regions.Region.{Region}
use Rattle.ojp_links_mem.specs.declared.memory.MemLinks.TheInside.{Inside}

abbrev pub view_of : Inside → MemView
view_of m = record {
  tables = m.servers.items;
  regions = m.regions.items;
  script = m.script.entries;
  asks = m.asks;
  order = m.order;
  most = m.most;
  made = m.made;
  patience = m.patience;
  rested = m.rested;
  tells_servers = m.tells_servers;
  tells_order = m.tells_order;
}

-- a region's timetable, where it has one, is one of so many
abbrev pub IsNumbered : ℕ → Region → Type 0
IsNumbered count region = IfSome region.table (λ number. number < count)

-- a region where timetables are told: it has one, and its counts rise together
pub record IsToldOf (region : Region) : Type 0 where
  pub has_table : IsSome region.table
  pub sure : region.faults ≡ region.rejections

-- what links in memory keep
pub record IsWhole (m : Inside) : Type 0 where
  pub rising : IsRising text_lt (map region_of_table m.servers.items)
  pub well : Each IsWell m.servers.items
  pub distinct : AreDistinct (map code_of_station (map station_of m.regions.items))
  pub numbered : Each (IsNumbered (length m.servers.items)) m.regions.items
  pub told : m.tells_servers ≡ true → Each IsToldOf m.regions.items
  pub unsaid : m.tells_servers ≡ true → (number : ℕ) → said_in m.script.entries number ≡ None
  pub low : m.order ≤ 10
  pub ordered : m.tells_order ≡ true → (m.most ≡ 0) × (m.tells_servers ≡ true)
  pub kept : AreKept (length m.regions.items) (told_tables m.tells_servers m.servers.items m.regions.items) m.most m.patience m.asks
