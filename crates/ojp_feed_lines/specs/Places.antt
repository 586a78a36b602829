-- What rows stand for: the zone of a feed, its routes, and the ids of its stops.
use Rattle.std.specs.Prelude.{◌≡◌, ◌<◌, ℕ, List, [], length, map, string_bytes, String, All, Option, Some, None}
use Rattle.std.specs.declared.alloc.Global.{Global}
use Rattle.ojp_values.specs.Texts.{Text}
use Rattle.ojp_feed_rows.specs.declared.stops.Route.{Route}
use Rattle.ojp_feed_lines.specs.Columns.{column_name}
use Rattle.ojp_feed_lines.specs.Rows.{AreRows, Record, at_place, under}
use Rattle.ojp_feed_lines.specs.declared.columns.Column.TheVariants as columns

-- each row of the bytes, and there is one, names this zone
pub record IsZoneOf (bytes : Text) (zone : Text) : Type 0 where
  pub head : Record
  pub rows : List Record
  pub are_rows : AreRows bytes head rows
  pub some : 0 < length rows
  pub each : All (λ row. under head (column_name columns.AgencyTimezone) row ≡ zone) rows

-- a route: its id and its short name
abbrev pub route_texts : Route → Text × Text
route_texts route = (string_bytes route.id, string_bytes route.short_name)

-- the same by a row
abbrev pub route_under : Record → Record → Text × Text
route_under head row = (under head (column_name columns.RouteId) row, under head (column_name columns.RouteShortName) row)

-- the routes are the rows of the bytes, in their order
pub record AreRoutesOf (bytes : Text) (routes : List Route) : Type 0 where
  pub head : Record
  pub rows : List Record
  pub are_rows : AreRows bytes head rows
  pub same : map route_texts routes ≡ map (route_under head) rows

-- the ids are those of the rows of the bytes, in their order
pub record AreStopIdsOf (bytes : Text) (ids : List Text) : Type 0 where
  pub head : Record
  pub rows : List Record
  pub are_rows : AreRows bytes head rows
  pub same : ids ≡ map (under head (column_name columns.StopId)) rows

-- the same by places in a row, while rows are taken

-- the zone of the rows so far
abbrev pub HoldsZone : Option (String Global) → ℕ → List Record → Type 0
HoldsZone None column rows = rows ≡ []
HoldsZone (Some name) column rows = (0 < length rows) × All (λ row. at_place row (Some column) ≡ string_bytes name) rows

abbrev pub route_at : ℕ → Option ℕ → Record → Text × Text
route_at id short_name row = (at_place row (Some id), at_place row short_name)
