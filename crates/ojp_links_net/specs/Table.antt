-- The regions and the live asks, and what is seen of them as links.
use Rattle.std.specs.Prelude.{◌≡◌, ℕ, false, None}
use Rattle.slab.specs.Slab.{Slab}
use Rattle.ojp_links.specs.Seen.{Fixed, NoneLive, View}
use Rattle.ojp_links_net.specs.Pending.{SameLive, live_in}
use Rattle.ojp_links_net.specs.Progress.{SameProgress, progress_in}
use Rattle.ojp_links_net.specs.Regions.{RegionsView, count_of, no_regions}
use Rattle.ojp_links_net.specs.declared.pending.Pending.{Pending}

-- the regions, the live asks, and how many asks were made
pub record TableView : Type 0 where
  pub regions : RegionsView
  pub asks : Slab Pending
  pub made : ℕ

-- sockets tell neither replies nor servers nor an order
abbrev pub fixed_of : RegionsView → Fixed
fixed_of regions = record { stations = regions.stations; servers = None; tells_replies = false; order = None; is_sure = false }

-- what is seen as links
abbrev pub links_of : TableView → View
links_of t = record {
  fixed = fixed_of t.regions;
  faults = count_of t.regions.faults;
  rejections = count_of t.regions.rejections;
  live = live_in t.asks;
  made = t.made;
  patience = None;
}

-- no call was made yet
pub record IsUnused (t : TableView) : Type 0 where
  pub none : t.regions ≡ no_regions
  pub none_live : (key : ℕ) → live_in t.asks key ≡ None
  pub none_made : t.made ≡ 0

-- nothing that is seen changed
pub record SameSeen (old new : TableView) : Type 0 where
  pub regions_same : new.regions ≡ old.regions
  pub made_same : new.made ≡ old.made
  pub live_same : SameLive old.asks new.asks
  pub progress_same : SameProgress (progress_in old.asks) (progress_in new.asks)

-- links to no region, that tell nothing
pub record HasNoRegions (v : View) : Type 0 where
  pub fixed_is : v.fixed ≡ fixed_of no_regions
  pub none_live : NoneLive v
  pub none_made : v.made ≡ 0
  pub no_faults : (region : ℕ) → v.faults region ≡ 0
  pub no_rejections : (region : ℕ) → v.rejections region ≡ 0
  pub no_patience : v.patience ≡ None
