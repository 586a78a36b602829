-- What a book keeps: the exchange points of all regions by rising stop and region.
use Rattle.std.specs.Prelude.{◌≡◌, ◌≢◌, ℕ, ◌≤◌, ◌&&◌, ◌||◌, Bool, true, List, [], ◌∷◌, map, Option, Some, None, if◌then◌else◌, length, slice_get}
use Rattle.std.specs.List.{count_by, filter, flat_map}
use Rattle.std.specs.Option.{option_to_list}
use Rattle.ojp_values.specs.Limits.{IsChange, IsWellPoint}
use Rattle.ojp_values.specs.Lists.{Among, Each, IsRising}
use Rattle.ojp_values.specs.Texts.{Text, is_exchange, same, text_lt}
use Rattle.ojp_values.specs.declared.trips.Neighbour.{Neighbour}
use Rattle.ojp_values.specs.declared.trips.Point.{Point}
use Rattle.ojp_timetable.specs.Points.{IsPointOf}
use Rattle.ojp_timetable.specs.Tables.{Timetable, point_of}
use Rattle.ojp_exchange.specs.Book.{Book, HasChange, IsAgreed, Link, Spot, link_lt, spot_lt}

-- exchange points of several regions are ordered by stop and region
abbrev pub entry_lt : Point → Point → Bool
entry_lt x y = text_lt x.stop y.stop || (same x.stop y.stop && text_lt x.region y.region)

-- they are those of one region at one stop
abbrev pub entry_same : Point → Point → Bool
entry_same x y = same x.stop y.stop && same x.region y.region

abbrev pub spot_of : Point → Spot
spot_of point = record { stop = point.stop; region = point.region; change = point.change }

abbrev pub link_of : Point → Neighbour → Link
link_of point neighbour = record { stop = point.stop; region = point.region; other = neighbour.code; change = neighbour.change }

abbrev pub links_of : Point → List Link
links_of point = map (link_of point) point.neighbours

-- the book of these regions with these exchange points
abbrev pub book_of : List Text → List Point → Book
book_of codes points = record { codes = codes; spots = map spot_of points; links = flat_map links_of points }

-- the stops of rising spots, each once
abbrev pub stops_of : List Spot → List Text
stops_of [] = []
stops_of (spot ∷ []) = spot.stop ∷ []
stops_of (spot ∷ next ∷ more) = if same spot.stop next.stop then stops_of (next ∷ more) else spot.stop ∷ stops_of (next ∷ more)

-- no point of the region at the stop is among them
abbrev pub HasNoPoint : List Point → Text → Text → Type 0
HasNoPoint points stop region = (point : Point) → Among point points → point.stop ≡ stop → point.region ≡ region → ⊥

-- the point of the region at the stop has that number
pub record IsPointAt (points : List Point) (stop region : Text) (place : ℕ) : Type 0 where
  pub point : Point
  pub at : slice_get points place ≡ Some point
  pub stop_is : point.stop ≡ stop
  pub region_is : point.region ≡ region

-- the region declares the other at the stop, with the time for a change from it
pub record Says (points : List Point) (stop region other : Text) (change : ℕ) : Type 0 where
  pub point : Point
  pub listed : Among point points
  pub at : point.stop ≡ stop
  pub of : point.region ≡ region
  pub neighbour : Neighbour
  pub declared : Among neighbour point.neighbours
  pub code : neighbour.code ≡ other
  pub time : neighbour.change ≡ change

-- the region does not declare the other at the stop
abbrev pub SaysNothing : List Point → Text → Text → Text → Type 0
SaysNothing points stop region other = (change : ℕ) → Says points stop region other change → ⊥

-- what a book keeps of the lists: regions and points that rise, at most 255 points of a region, each point well and of a
-- region
pub record AreKept (codes : List Text) (points : List Point) : Type 0 where
  pub codes_rise : IsRising text_lt codes
  pub rise : IsRising entry_lt points
  pub few : (region : Text) → count_by (λ (point : Point). same region point.region) points ≤ 255
  pub own : Each (λ (point : Point). IsPointOf point.region point) points
  pub bounded : Each IsWellPoint points
  pub known : Each (λ (point : Point). Among point.region codes) points

-- a book has at most 32 regions and 2,000 stops, and its regions agree
pub record IsSound (book : Book) : Type 0 where
  pub regions_few : length book.codes ≤ 32
  pub stops_few : length (stops_of book.spots) ≤ 2000
  pub agreed : IsAgreed book

-- the book has no time for the change
abbrev pub HasNoChange : Book → Text → Text → Text → Type 0
HasNoChange book stop left right = (change : ℕ) → HasChange book stop left right change → ⊥

-- the regions that declare the stop, rising
unfoldable pub regions_of : Book → Text → List Text
regions_of book stop = map (λ (spot : Spot). spot.region) (filter (λ (spot : Spot). same stop spot.stop) book.spots)

-- all points, or those at the place
abbrev pub points_at : Option Text → List Point → List Point
points_at None points = points
points_at (Some stop) points = filter (λ (point : Point). same stop point.stop) points

-- all points of a region, or the one at the place, if it is one
abbrev pub points_listed : Timetable → Option Text → List Point
points_listed table None = table.points
points_listed table (Some stop) = option_to_list (point_of table stop)

-- the points are those of the book, by stop and region
pub record ArePointsOf (book : Book) (points : List Point) : Type 0 where
  pub kept : AreKept book.codes points
  pub are : book_of book.codes points ≡ book

-- the points are those of the book, or those of them that are at the place
abbrev pub ArePointsAt : Book → Option Text → List Point → Type 0
ArePointsAt book place found = (points : List Point) × ArePointsOf book points × (found ≡ points_at place points)

-- what holds of every book: its lists rise; it is within its limits and agreed; its spots are exchange points of its
-- regions, at most 255 of each; a link is to another region, and declared by one that has its spot there; each change
-- time is in range
pub record IsWellBook (book : Book) : Type 0 where
  pub codes_rise : IsRising text_lt book.codes
  pub spots_rise : IsRising spot_lt book.spots
  pub links_rise : IsRising link_lt book.links
  pub sound : IsSound book
  pub few : (region : Text) → count_by (λ (spot : Spot). same region spot.region) book.spots ≤ 255
  pub exchange : (spot : Spot) → Among spot book.spots → is_exchange spot.stop ≡ true
  pub known : (spot : Spot) → Among spot book.spots → Among spot.region book.codes
  pub spot_times : (spot : Spot) → Among spot book.spots → IsChange spot.change
  pub link_times : (link : Link) → Among link book.links → IsChange link.change
  pub differ : (link : Link) → Among link book.links → link.other ≢ link.region
  pub declaring : (link : Link) → Among link book.links → (spot : Spot) × Among spot book.spots × (spot.stop ≡ link.stop) × (spot.region ≡ link.region)
