-- What a line says, and what it adds to what the lines above it declare.
use Rattle.std.specs.Prelude.{◌≡◌, ◌≤◌, ◌<◌, ℕ, ◌+◌, List, [], ◌∷◌, ◌++◌, length, Option, Some, None, unwrap_or, if◌then◌else◌}
use Rattle.ojp_values.specs.Texts.{Text, is_exchange}
use Rattle.ojp_values.specs.declared.trips.Point.{Point}
use Rattle.ojp_timetable.specs.Contents.{Contents, no_contents, service_number, with_point, points_with, with_call}
use Rattle.ojp_timetable.specs.declared.file.lines.Line.{Line}
use Rattle.ojp_timetable.specs.declared.file.lines.Line.TheVariants as lines
use Rattle.ojp_timetable.specs.Runs.{AreDays, IsOffset}
use Rattle.ojp_zones.specs.Noons.{IsZone}
use Rattle.ojp_timetable.specs.declared.file.lines.Open.{Open}
use Rattle.ojp_timetable.specs.declared.file.lines.Open.TheVariants.{Nothing, Begun, Since}

-- the lines above: how many, their bytes, what the last of them leaves open, and what they declare
pub record Above : Type 0 where
  pub lines : ℕ
  pub bytes : ℕ
  pub left : Open
  pub contents : Contents

-- no line is above the first
abbrev pub no_lines : Above
no_lines = record { lines = 0; bytes = 0; left = Nothing; contents = no_contents }

abbrev pub new_point : Text → Text → ℕ → Point
new_point region stop change = record { region = region; stop = stop; change = change; neighbours = [] }

-- an exchange point comes among the points too
abbrev pub points_with_place : Contents → Text → ℕ → List Point
points_with_place contents stop change =
    if is_exchange stop then with_point contents.points (new_point contents.region stop change) else contents.points

-- the contents with what the line declares
abbrev pub grown : Contents → Line → Contents
grown contents lines.Header = contents
grown contents (lines.Region code) = record contents { region = code }
grown contents (lines.Zone zone) = record contents { zone = zone }
grown contents (lines.Place stop change name) =
    record contents {
      places = contents.places ++ record { stop = stop; change = change; name = name } ∷ [];
      points = points_with_place contents stop change;
    }
grown contents (lines.Neighbour stop neighbour) = record contents { points = points_with contents.points stop neighbour }
grown contents (lines.Service id dates) =
    record contents { services = contents.services ++ record { id = id; first = dates.first; last = dates.last; marks = dates.marks } ∷ [] }
grown contents (lines.Journey id service line) =
    record contents {
      journeys = contents.journeys ++ record { id = id; line = line; service = unwrap_or (service_number contents service) 0; calls = [] } ∷ [];
    }
grown contents (lines.Call call) = record contents { journeys = with_call contents.journeys call }

abbrev pub left_by : Option ℕ → Open
left_by None = Nothing
left_by (Some departs) = Since departs

-- a journey stands open from its line on until a call without departure
abbrev pub left_open : Line → Open
left_open lines.Header = Nothing
left_open (lines.Region code) = Nothing
left_open (lines.Zone zone) = Nothing
left_open (lines.Place stop change name) = Nothing
left_open (lines.Neighbour stop neighbour) = Nothing
left_open (lines.Service id dates) = Nothing
left_open (lines.Journey id service line) = Begun
left_open (lines.Call call) = left_by call.departs

-- the lines above the next, with this one
abbrev pub after_line : Above → Text → Line → Above
after_line above text line =
    record {
      lines = above.lines + 1;
      bytes = above.bytes + length text;
      left = left_open line;
      contents = grown above.contents line;
    }

-- the numbers of the line are in range, and it stands at its place below so many lines
abbrev pub IsWellLine : ℕ → Line → Type 0
IsWellLine above lines.Header = above ≡ 0
IsWellLine above (lines.Region code) = (above ≡ 1) × (0 < length code)
IsWellLine above (lines.Zone zone) = (above ≡ 2) × IsZone zone
IsWellLine above (lines.Place stop change name) = (3 ≤ above) × (1 ≤ change) × (change ≤ 7200)
IsWellLine above (lines.Neighbour stop neighbour) = (3 ≤ above) × (1 ≤ neighbour.change) × (neighbour.change ≤ 7200)
IsWellLine above (lines.Service id dates) = (3 ≤ above) × AreDays dates.first dates.last dates.marks
IsWellLine above (lines.Journey id service line) = 3 ≤ above
IsWellLine above (lines.Call call) = (3 ≤ above) × IsOffset call.arrives × IsOffset call.departs

-- a place is declared where the region is
abbrev pub HasRegionFor : Contents → Line → Type 0
HasRegionFor contents (lines.Place stop change name) = 0 < length contents.region
HasRegionFor contents _ = Unit {0}
