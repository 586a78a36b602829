-- What a text declares, told by what its lines say.
use Rattle.std.specs.Prelude.{◌≡◌, ◌↔◌, ℕ, List, [], ◌∷◌, IsTrue, position, unwrap_or, Ok, Err}
use Rattle.ojp_values.specs.Lists.{Among}
use Rattle.ojp_values.specs.Texts.{Text, same}
use Rattle.ojp_timetable.specs.Tables.{Call, Journey, Place, Service, Timetable}
use Rattle.ojp_timetable.specs.Contents.{has_journey, has_place, has_service}
use Rattle.ojp_timetable.specs.Lines.{Above, no_lines}
use Rattle.ojp_timetable.specs.Said.{Said}
use Rattle.ojp_timetable.specs.Checks.{read_line}
use Rattle.ojp_timetable.specs.TableText.{IsText, above_of, lines_of, with_line}
use Rattle.ojp_timetable.specs.declared.file.lines.Dates.{Dates}
use Rattle.ojp_timetable.specs.declared.file.lines.Line.{Line}
use Rattle.ojp_timetable.specs.declared.file.lines.Line.TheVariants as lines

-- a line that fails a check says nothing
abbrev pub said_first : Said → List Line → List Line
said_first (Ok line) more = line ∷ more
said_first (Err reason) more = more

-- what the lines say in their order, below those above
abbrev pub say_below : Above → List Text → List Line
say_below above [] = []
say_below above (text ∷ texts) = said_first (read_line above text) (say_below (with_line above text) texts)

-- what the lines of a file say in their order
unfoldable pub say : List Text → List Line
say texts = say_below no_lines texts

-- the places that lines declare, in their order
abbrev pub places_said : List Line → List Place
places_said [] = []
places_said (lines.Place stop change name ∷ more) = record { stop = stop; change = change; name = name } ∷ places_said more
places_said (_ ∷ more) = places_said more

-- the services that lines declare, in their order
abbrev pub services_said : List Line → List Service
services_said [] = []
services_said (lines.Service id dates ∷ more) =
    record { id = id; first = dates.first; last = dates.last; marks = dates.marks } ∷ services_said more
services_said (_ ∷ more) = services_said more

-- the calls behind a journey, up to the next
abbrev pub calls_behind : List Line → List Call
calls_behind [] = []
calls_behind (lines.Call call ∷ more) = call ∷ calls_behind more
calls_behind (lines.Journey id service line ∷ more) = []
calls_behind (_ ∷ more) = calls_behind more

-- the number of the service of that label
abbrev pub number_among : List Service → Text → ℕ
number_among services id = unwrap_or (position (λ (service : Service). same id service.id) services) 0

-- the journeys that lines declare, in their order, each with the calls behind it
abbrev pub journeys_said : List Service → List Line → List Journey
journeys_said services [] = []
journeys_said services (lines.Journey id service line ∷ more) =
    record { id = id; line = line; service = number_among services service; calls = calls_behind more } ∷ journeys_said services more
journeys_said services (_ ∷ more) = journeys_said services more

-- places, services and journeys of a timetable are those that the lines of its text declare, in their order
pub record IsAsSaid (said : List Line) (table : Timetable) : Type 0 where
  pub places : table.places ≡ places_said said
  pub services : table.services ≡ services_said said
  pub journeys : table.journeys ≡ journeys_said (services_said said) said

abbrev pub TablesAreAsSaid : Type 0
TablesAreAsSaid = (bytes : Text) (table : Timetable) → IsText bytes table → IsAsSaid (say (lines_of bytes)) table

-- a place, a service or a journey stands above just where a line above declares it
pub record StandsAsSaid (texts : List Text) : Type 0 where
  pub place : (stop : Text) → IsTrue (has_place (above_of texts).contents stop)
      ↔ ((change : ℕ) × (name : Text) × Among (lines.Place stop change name) (say texts))
  pub service : (id : Text) → IsTrue (has_service (above_of texts).contents id)
      ↔ ((dates : Dates) × Among (lines.Service id dates) (say texts))
  pub journey : (id : Text) → IsTrue (has_journey (above_of texts).contents id)
      ↔ ((service : Text) × (line : Text) × Among (lines.Journey id service line) (say texts))

abbrev pub AboveIsAsSaid : Type 0
AboveIsAsSaid = (texts : List Text) → StandsAsSaid texts
