-- The tables of a book: a list in parts, one for each place or each region, with the number at which each part begins.
use Rattle.std.specs.Prelude.{◌≡◌, ℕ, ◌+◌, ◌<◌, ◌≤◌, ◌&&◌, ◌↔◌, ◌++◌, Bool, false, nat_lt, List, map, length, slice_index, slice_range, slice_get, Some}
use Rattle.std.specs.List.{filter, range_with_len}
use Rattle.std.specs.Option.{option_map_or}
use Rattle.ojp_values.specs.Lists.{Among, Each, IsRising}
use Rattle.ojp_values.specs.Texts.{Text, same}
use Rattle.ojp_values.specs.declared.trips.Neighbour.{Neighbour}
use Rattle.ojp_values.specs.declared.trips.Point.{Point}
use Rattle.ojp_timetable.specs.Points.{IsPointOf}
use Rattle.ojp_exchange.specs.declared.spots.Edge.{Edge}
use Rattle.ojp_exchange.specs.Kept.{AreKept, IsSound, book_of, entry_lt}
use Rattle.ojp_exchange.specs.Places.{edge_to}
use Rattle.ojp_exchange.specs.Points.{IsStretch}

-- the part of that number lies within the list
pub record IsPart (firsts : List ℕ) (number total : ℕ) : Type 0 where
  pub rises : slice_index firsts number ≤ slice_index firsts (number + 1)
  pub within : slice_index firsts (number + 1) ≤ total

-- the part of that number
abbrev pub part : {X : Type 0} → List X → List ℕ → ℕ → List X
part table firsts number = slice_range table (slice_index firsts number) (slice_index firsts (number + 1))

-- the list has so many parts, and each is as is said of its number
pub record AreParts {X : Type 0} (IsRight : ℕ → List X → Type 0) (table : List X) (firsts : List ℕ) (count : ℕ) : Type 0 where
  pub size : length firsts ≡ count + 1
  pub end : slice_index firsts count ≡ length table
  pub parts : (number : ℕ) → number < count → IsPart firsts number (length table)
  pub right : (number : ℕ) → number < count → IsRight number (part table firsts number)

-- the points rise, and each is an exchange point of its region
pub record AreInOrder (points : List Point) : Type 0 where
  pub rise : IsRising entry_lt points
  pub own : Each (λ (point : Point). IsPointOf point.region point) points

-- one who arrived at the one point may change to the other, in the time that the other declares
pub record IsChangeAt (points : List Point) (from to change : ℕ) : Type 0 where
  pub here : Point
  pub here_at : slice_get points from ≡ Some here
  pub there : Point
  pub there_at : slice_get points to ≡ Some there
  pub one_stop : there.stop ≡ here.stop
  pub neighbour : Neighbour
  pub declared : Among neighbour there.neighbours
  pub code : neighbour.code ≡ here.region
  pub time : neighbour.change ≡ change

-- the edges are the changes from the point of that number
abbrev pub AreChanges : List Point → ℕ → List Edge → Type 0
AreChanges points place edges = (to change : ℕ) → Among (edge_to to change) edges ↔ IsChangeAt points place to change

-- a part for each point: its changes
abbrev pub IsEdgeTable : List Point → List Edge → List ℕ → Type 0
IsEdgeTable points edges firsts = AreParts (AreChanges points) edges firsts (length points)

-- the points at the stop of the one are those from the one number to before the other
abbrev pub IsStretchOf : List Point → ℕ → ℕ → ℕ → Type 0
IsStretchOf points place from to = (point : Point) → slice_get points place ≡ Some point → IsStretch points point.stop from to

-- the changes from the point were added to the edges
pub record AreChangesAdded (points : List Point) (place : ℕ) (old new : List Edge) : Type 0 where
  pub more : List Edge
  pub grown : new ≡ old ++ more
  pub right : AreChanges points place more

-- the point of that number is one of the region, and has changes
abbrev pub is_way : List Point → List ℕ → Text → ℕ → Bool
is_way points firsts code place =
    option_map_or (λ (point : Point). same code point.region) (slice_get points place) false && nat_lt (slice_index firsts place) (slice_index firsts (place + 1))

-- the numbers of the region's points that have changes, rising
abbrev pub ways_in : List Point → List ℕ → Text → List ℕ
ways_in points firsts code = filter (is_way points firsts code) (range_with_len 0 (length points))

-- the ways are those of the region of that number
abbrev pub AreWaysIn : List Text → List Point → List ℕ → ℕ → List ℕ → Type 0
AreWaysIn codes points firsts number ways = (code : Text) → slice_get codes number ≡ Some code → ways ≡ ways_in points firsts code

-- a part for each region: its ways
abbrev pub IsWayTable : List Text → List Point → List ℕ → List ℕ → List ℕ → Type 0
IsWayTable codes points edge_firsts ways firsts = AreParts (AreWaysIn codes points edge_firsts) ways firsts (length codes)

-- what a book keeps, and what it has beside it to find places, edges and ways at once
pub record IsWhole (codes : List Text) (points : List Point) (regions : List Text) (edges : List Edge) (edge_firsts ways way_firsts : List ℕ) : Type 0 where
  pub kept : AreKept codes points
  pub sound : IsSound (book_of codes points)
  pub regions_are : regions ≡ map (λ (point : Point). point.region) points
  pub edges_are : IsEdgeTable points edges edge_firsts
  pub ways_are : IsWayTable codes points edge_firsts ways way_firsts
