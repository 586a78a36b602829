-- A timetable as plain data: what a region serves.
use Rattle.std.specs.Prelude.{ℕ, Bool, List, Option, option_map, find}
use Rattle.std.specs.List.{list_any}
use Rattle.ojp_values.specs.Texts.{Text, same}
use Rattle.ojp_values.specs.declared.trips.Point.{Point}
pub use Rattle.ojp_timetable.specs.declared.calls.Call.{Call}

-- a journey runs on the days of its service, which is named by its place in the list of services
pub record Journey : Type 0 where
  pub id : Text
  pub line : Text
  pub service : ℕ
  pub calls : List Call

-- a service runs from the first day to the last, on the marked weekdays, Monday first
pub record Service : Type 0 where
  pub id : Text
  pub first : ℕ
  pub last : ℕ
  pub marks : List Bool

-- an own stop or an exchange point, with the time in seconds for a change within the region
pub record Place : Type 0 where
  pub stop : Text
  pub change : ℕ
  pub name : Text

-- the places stand in the order of the file and the points by rising reference;
-- noons has the moment of the zone's noon of each operating day, from day 2 on
pub record Timetable : Type 0 where
  pub region : Text
  pub places : List Place
  pub points : List Point
  pub services : List Service
  pub journeys : List Journey
  pub noons : List ℕ

-- the place of that reference
unfoldable pub place_of : Timetable → Text → Option Place
place_of table stop = find (λ place. same stop place.stop) table.places

-- the region has the stop, as its own or as an exchange point
unfoldable pub has : Timetable → Text → Bool
has table stop = list_any (λ place. same stop place.stop) table.places

-- the time for a change at the stop, within the region
abbrev pub change_of : Timetable → Text → Option ℕ
change_of table stop = option_map (λ place. place.change) (place_of table stop)

-- the name of the stop
abbrev pub name_of : Timetable → Text → Option Text
name_of table stop = option_map (λ place. place.name) (place_of table stop)

-- the exchange point of that reference
unfoldable pub point_of : Timetable → Text → Option Point
point_of table stop = find (λ (point : Point). same stop point.stop) table.points
