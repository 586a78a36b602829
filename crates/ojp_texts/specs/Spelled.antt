-- A timetable as the lines that spell it.
use Rattle.std.specs.Prelude.{◌≡◌, ◌≢◌, ◌⊎◌, ◌≤◌, ℕ, Bool, true, List, [], ◌∷◌, ◌++◌, Some, IsTrue, length, map, not, slice_index_or, ◌&&◌, ◌==◌}
use Rattle.std.specs.List.{concat, flat_map, list_all}
use Rattle.ojp_values.specs.Dates.{day_text}
use Rattle.ojp_values.specs.Lists.{Each, Pairwise}
use Rattle.ojp_values.specs.Texts.{Text, code_part, is_code, is_exchange, is_label, is_name, is_stop_ref}
use Rattle.ojp_values.specs.declared.trips.Neighbour.{Neighbour}
use Rattle.ojp_values.specs.declared.trips.Point.{Point}
use Rattle.ojp_zones.specs.Noons.{AreNoons}
use Rattle.ojp_zones.specs.Zones.{zone_of}
use Rattle.ojp_zones.specs.declared.zone.Zone.{Zone}
use Rattle.ojp_lines.specs.Lines.{call_fields, journey_fields, line_text, marks_text, neighbour_fields, place_fields, place_word, region_fields, service_fields, title_fields, zone_fields}
use Rattle.ojp_timetable.specs.Fields.{body, joined}
use Rattle.ojp_timetable.specs.Runs.{IsWell}
use Rattle.ojp_timetable.specs.SaidLines.{say}
use Rattle.ojp_timetable.specs.TableText.{IsText, lines_of}
use Rattle.ojp_timetable.specs.Tables.{Journey, Place, Service, Timetable}
use Rattle.ojp_timetable.specs.Views.{dates_of}
use Rattle.ojp_timetable.specs.declared.file.above.TheConstants.{BYTES}
use Rattle.ojp_timetable.specs.declared.calls.Call.{Call}
use Rattle.ojp_timetable.specs.declared.file.lines.Line.{Line}
use Rattle.ojp_timetable.specs.declared.file.lines.Line.TheVariants as lines

-- ---- how a line is spelled

-- the fields of a line, where the zone is spelled so
abbrev pub fields_spelled : Text → Line → List Text
fields_spelled zone lines.Header = title_fields
fields_spelled zone (lines.Region code) = region_fields code
fields_spelled zone (lines.Zone is) = zone_fields zone
fields_spelled zone (lines.Place stop change name) = place_fields (place_word stop) stop change name
fields_spelled zone (lines.Neighbour stop neighbour) = neighbour_fields stop neighbour.code neighbour.change
fields_spelled zone (lines.Service id dates) = service_fields id (day_text dates.first) (day_text dates.last) (marks_text dates.marks)
fields_spelled zone (lines.Journey id service line) = journey_fields id service line
fields_spelled zone (lines.Call call) = call_fields call.stop call.arrives call.departs

abbrev pub spelled : Text → Line → Text
spelled zone line = line_text (fields_spelled zone line)

-- ---- what the lines of a timetable say

abbrev pub place_line : Place → Line
place_line place = lines.Place place.stop place.change place.name

abbrev pub neighbour_lines : Point → List Line
neighbour_lines point = map (λ (neighbour : Neighbour). lines.Neighbour point.stop neighbour) point.neighbours

abbrev pub service_line : Service → Line
service_line service = lines.Service service.id (dates_of service)

-- the label of the service of that number
abbrev pub label_at : List Service → ℕ → Text
label_at services number = (slice_index_or services number (record { id = []; first = 0; last = 0; marks = [] })).id

-- a journey and its calls
abbrev pub journey_lines : List Service → Journey → List Line
journey_lines services journey =
    lines.Journey journey.id (label_at services journey.service) journey.line ∷ map (λ (call : Call). lines.Call call) journey.calls

-- the lines below the third: places, neighbours, services, and journeys with their calls
abbrev pub entries : Timetable → List Line
entries table =
    map place_line table.places ++ flat_map neighbour_lines table.points ++ map service_line table.services
    ++ flat_map (journey_lines table.services) table.journeys

-- all that the lines say, in their order
abbrev pub lines_said : Timetable → Zone → List Line
lines_said table is = lines.Header ∷ lines.Region table.region ∷ lines.Zone is ∷ entries table

-- the spelled lines of a timetable in that zone
abbrev pub lines_spelled : Timetable → Text → Zone → List Text
lines_spelled table zone is = map (spelled zone) (lines_said table is)

-- ---- what can be spelled

-- the stop is the region's own, or an exchange point
abbrev pub IsNamed : Text → Place → Type 0
IsNamed region place =
    IsTrue (is_stop_ref place.stop) × IsTrue (is_name place.name) × ((is_exchange place.stop ≡ true) ⊎ (code_part place.stop ≡ region))

-- no two have one key
abbrev pub HaveOwn : {X : Type 0} → (X → Text) → List X → Type 0
HaveOwn key [] = Unit {0}
HaveOwn key (x ∷ more) = Each (λ other. key x ≢ key other) more × HaveOwn key more

-- neither a line feed, which is 10, nor a space, which is 32
abbrev pub is_word_byte : ℕ → Bool
is_word_byte b = not (b == 10) && not (b == 32)

-- no line feed and no space stands in the text
abbrev pub is_word : Text → Bool
is_word text = list_all is_word_byte text

-- a timetable that is well, whose texts are of their kinds, whose places and services have references and labels of
-- their own, and whose noons are those of the zone that is spelled so
pub record CanBeSpelled (table : Timetable) (zone : Text) (is : Zone) : Type 0 where
  pub well : IsWell table
  pub region : IsTrue (is_code table.region)
  pub places : Each (IsNamed table.region) table.places
  pub own_stops : HaveOwn (λ (place : Place). place.stop) table.places
  pub neighbours : Each (λ (point : Point). Each (λ (neighbour : Neighbour). IsTrue (is_code neighbour.code)) point.neighbours) table.points
  pub services : Each (λ (service : Service). IsTrue (is_label service.id)) table.services
  pub own_services : HaveOwn (λ (service : Service). service.id) table.services
  pub journeys : Each (λ (journey : Journey). IsTrue (is_label journey.id) × IsTrue (is_label journey.line)) table.journeys
  pub word : IsTrue (is_word zone)
  pub zone_is : zone_of zone ≡ Some is
  pub noons : AreNoons is table.noons

-- ---- the laws

-- the spelled lines of a timetable are its text, where a file may have so many bytes
abbrev pub SpelledIsText : Type 0
SpelledIsText =
    (table : Timetable) (zone : Text) (is : Zone) → CanBeSpelled table zone is → length (concat (lines_spelled table zone is)) ≤ BYTES
    → IsText (concat (lines_spelled table zone is)) table × (say (lines_of (concat (lines_spelled table zone is))) ≡ lines_said table is)

-- a timetable that is well and has a text can be spelled
abbrev pub TextsCanBeSpelled : Type 0
TextsCanBeSpelled =
    (bytes : Text) (table : Timetable) → IsText bytes table → IsWell table → (zone : Text) × (is : Zone) × CanBeSpelled table zone is

-- each line of a text is spelled as what it says, with the zone that its third line names
abbrev pub LinesAreSpelled : Type 0
LinesAreSpelled =
    (bytes : Text) (table : Timetable) → IsText bytes table
    → (zone : Text) × Pairwise (λ (line : Line) (text : Text). body text ≡ joined (fields_spelled zone line)) (say (lines_of bytes)) (lines_of bytes)
