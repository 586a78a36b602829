-- What the questions to a timetable answer.
use Rattle.std.specs.Prelude.{ℕ, List, [], length, codes, option_map, unwrap_or, slice_get}
use Rattle.ojp_values.specs.Texts.{Text}
use Rattle.ojp_timetable.specs.Tables.{Call, Journey, Place, Service}
use Rattle.ojp_timetable.specs.declared.file.lines.Dates.{Dates}
use Rattle.ojp_timetable.specs.declared.file.lines.TableReason.{TableReason}
use Rattle.ojp_timetable.specs.declared.file.lines.TableReason.TheVariants.{LineForm, Value, BadZone, ForeignStop, DoubledName, UnknownStop, UnknownService, FallingTimes, Limit}
use Rattle.ojp_timetable.specs.declared.kept.JourneyView.{JourneyView}
use Rattle.ojp_timetable.specs.declared.kept.PlaceView.{PlaceView}

-- a journey with the number of its calls
abbrev pub view_of : Journey → JourneyView
view_of journey = record { id = journey.id; line = journey.line; service = journey.service; calls = length journey.calls }

abbrev pub place_view : Place → PlaceView
place_view place = record { stop = place.stop; change = place.change; name = place.name }

-- the calls of the journey of that number
unfoldable pub calls_at : List Journey → ℕ → List Call
calls_at journeys i = unwrap_or (option_map (λ journey. journey.calls) (slice_get journeys i)) []

-- the days of a service
abbrev pub dates_of : Service → Dates
dates_of service = record { first = service.first; last = service.last; marks = service.marks }

-- how a reason is printed
abbrev pub reason_words : TableReason → Text
reason_words LineForm = codes "line form"
reason_words Value = codes "value"
reason_words BadZone = codes "zone"
reason_words ForeignStop = codes "foreign stop"
reason_words DoubledName = codes "doubled name"
reason_words UnknownStop = codes "unknown stop"
reason_words UnknownService = codes "unknown service"
reason_words FallingTimes = codes "falling times"
reason_words Limit = codes "limit"
