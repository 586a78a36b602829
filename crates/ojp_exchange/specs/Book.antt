-- The book: what a list of regions declares of its exchange points, as flat lists.
use Rattle.std.specs.Prelude.{◌≡◌, ℕ, Bool, false, ◌&&◌, ◌||◌, List, map, Option, Some, None, ◌↔◌}
use Rattle.std.specs.List.{list_any}
use Rattle.ojp_values.specs.Lists.{Among, IsRising}
use Rattle.ojp_values.specs.Texts.{Text, same, text_lt, home}
use Rattle.ojp_values.specs.declared.trips.Neighbour.{Neighbour}
use Rattle.ojp_values.specs.declared.trips.Point.{Point}
use Rattle.ojp_exchange.specs.declared.region_points.RegionPoints.{RegionPoints}
use Rattle.ojp_timetable.specs.Tables.{Timetable}
use Rattle.ojp_exchange.specs.declared.spots.Spot.{Spot as OneSpot}
use Rattle.ojp_exchange.specs.declared.spots.Link.{Link as OneLink}

-- the region declares the exchange point, with its own change time there
abbrev pub Spot : Type 0
Spot = OneSpot

-- the region declares the other one at the exchange point, with the time for a change from it
abbrev pub Link : Type 0
Link = OneLink

-- the codes of the regions, what each declares, and which neighbours each declares
pub record Book : Type 0 where
  pub codes : List Text
  pub spots : List Spot
  pub links : List Link

-- some list has the code
abbrev pub HasCode : List RegionPoints → Text → Type 0
HasCode lists code = (list : RegionPoints) × Among list lists × (list.code ≡ code)

-- the list of the spot's region has such an exchange point
pub record HasSpot (lists : List RegionPoints) (spot : Spot) : Type 0 where
  pub list : RegionPoints
  pub of_lists : Among list lists
  pub code : list.code ≡ spot.region
  pub point : Point
  pub listed : Among point list.points
  pub at : point.stop ≡ spot.stop
  pub time : point.change ≡ spot.change

-- the list of the link's region declares the other region at the point
pub record HasLink (lists : List RegionPoints) (link : Link) : Type 0 where
  pub list : RegionPoints
  pub of_lists : Among list lists
  pub code : list.code ≡ link.region
  pub point : Point
  pub listed : Among point list.points
  pub at : point.stop ≡ link.stop
  pub neighbour : Neighbour
  pub declared : Among neighbour point.neighbours
  pub other : neighbour.code ≡ link.other
  pub time : neighbour.change ≡ link.change

-- spots are ordered by stop and region
abbrev pub spot_lt : Spot → Spot → Bool
spot_lt x y = text_lt x.stop y.stop || (same x.stop y.stop && text_lt x.region y.region)

-- links are ordered by stop, region and other region
abbrev pub link_lt : Link → Link → Bool
link_lt x y =
    text_lt x.stop y.stop || (same x.stop y.stop && (text_lt x.region y.region || (same x.region y.region && text_lt x.other y.other)))

-- the book holds just what the lists declare, in rising order
pub record IsBookOf (lists : List RegionPoints) (book : Book) : Type 0 where
  pub codes : (code : Text) → Among code book.codes ↔ HasCode lists code
  pub spots : (spot : Spot) → Among spot book.spots ↔ HasSpot lists spot
  pub links : (link : Link) → Among link book.links ↔ HasLink lists link
  pub codes_rise : IsRising text_lt book.codes
  pub spots_rise : IsRising spot_lt book.spots
  pub links_rise : IsRising link_lt book.links

-- what the timetable declares
abbrev pub points_of : Timetable → RegionPoints
points_of table = record { code = table.region; points = table.points }

-- the book of the timetables: of what they declare
abbrev pub IsBookOfTables : List Timetable → Book → Type 0
IsBookOfTables tables book = IsBookOf (map points_of tables) book

-- the link is declared in the other direction too, at the same point
abbrev pub HasReturn : Book → Link → Type 0
HasReturn book link = (back : Link) × Among back book.links × (back.stop ≡ link.stop) × (back.region ≡ link.other) × (back.other ≡ link.region)

-- each declaration between two regions of the book has one in the other direction at the same point
abbrev pub IsAgreed : Book → Type 0
IsAgreed book = (link : Link) → Among link book.links → Among link.other book.codes → HasReturn book link

-- the region is one of the book
unfoldable pub has_region : Book → Text → Bool
has_region book code = list_any (same code) book.codes

-- the region is that of the own stop
abbrev pub is_home : Text → Option Text → Bool
is_home region None = false
is_home region (Some code) = same region code

-- the stop is the region's own, or the region declares it
unfoldable pub serves : Book → Text → Text → Bool
serves book region stop = is_home region (home stop) || list_any (λ spot. same region spot.region && same stop spot.stop) book.spots

-- some region of the book declares the exchange point
unfoldable pub is_declared : Book → Text → Bool
is_declared book stop = list_any (λ spot. same stop spot.stop) book.spots

-- the region declares some region of the book at the exchange point
unfoldable pub leads_out : Book → Text → Text → Bool
leads_out book region stop =
    list_any (λ link. same region link.region && (same stop link.stop && has_region book link.other)) book.links

-- the book has this time for a change at the stop, from the one region to the other
pub record HasChange (book : Book) (stop left right : Text) (change : ℕ) : Type 0 where
  pub known : Among left book.codes
  pub link : Link
  pub listed : Among link book.links
  pub at : link.stop ≡ stop
  pub declaring : link.region ≡ right
  pub other : link.other ≡ left
  pub time : link.change ≡ change
