-- The text of a plan.
use Rattle.std.specs.Prelude.{ℕ, ◌+◌, ◌-◌, ◌==◌, cond, min, [], ◌++◌, Option, Some, None, length, slice_get}
use Rattle.std.specs.List.{flat_map}
use Rattle.ojp_values.specs.Dates.{day_text}
use Rattle.ojp_values.specs.Texts.{Text}
use Rattle.ojp_calendars.specs.Labels.{label_text}
use Rattle.ojp_calendars.specs.declared.day_box.DayBox.{DayBox}
use Rattle.ojp_feed_rows.specs.declared.operator.NeighbourOf.{NeighbourOf}
use Rattle.ojp_feed_rows.specs.declared.settings.Settings.{Settings}
use Rattle.ojp_feed_trips.specs.declared.halts.Halt.{Halt}
use Rattle.ojp_feed_trips.specs.declared.weighing.Pattern.{Pattern}
use Rattle.ojp_feed_plans.specs.declared.plans.Plan.{Plan}
use Rattle.ojp_feed_plans.specs.declared.plans.PlannedJourney.{PlannedJourney}
use Rattle.ojp_feed_plans.specs.declared.plans.PlannedPlace.{PlannedPlace}
use Rattle.ojp_lines.specs.Lines.{call_text, head_text, journey_text, marks_text, neighbour_text, place_text, place_word, service_text}
use Rattle.ojp_timetable.specs.declared.calls.Call.{Call}
use Rattle.std.specs.String.{string_bytes}

-- ---- lines

unfoldable pub text_of_place : PlannedPlace → Text
text_of_place place = place_text (place_word place.stop) place.stop place.change place.name

unfoldable pub text_of_neighbour : NeighbourOf → Text
text_of_neighbour neighbour = neighbour_text neighbour.point neighbour.region neighbour.change

-- a service is named by its days
unfoldable pub text_of_service : DayBox → Text
text_of_service days = service_text (label_text days) (day_text days.first) (day_text days.last) (marks_text days.weekdays)

unfoldable pub text_of_journey : PlannedJourney → Text
text_of_journey journey = journey_text journey.label (label_text journey.days) journey.line

unfoldable pub text_of_call : Call → Text
text_of_call call = call_text call.stop call.arrives call.departs

-- ---- the calls of a journey

-- the time where what began at the one begins at the other, as far as 32 bits go
abbrev pub shifted : ℕ → ℕ → ℕ → ℕ
shifted begin start time = min ((time - begin) + start) 4294967295

-- the place of the plan of that number, by the numbers of places in the feed
abbrev pub numbered : Plan → Option ℕ → Option PlannedPlace
numbered plan None = None
numbered plan (Some number) = slice_get plan.places.items number

abbrev pub place_of : Plan → ℕ → Option PlannedPlace
place_of plan place = numbered plan (slice_get plan.numbers.items place)

-- the row that a pattern begins with, and the row that it ends with
abbrev pub first_row : Option Halt → ℕ
first_row None = 0
first_row (Some halt) = halt.first

abbrev pub last_row : Option Halt → ℕ
last_row None = 0
last_row (Some halt) = halt.last

abbrev pub begin_row : Pattern → ℕ
begin_row pattern = first_row (slice_get pattern.halts.items 0)

abbrev pub end_row : Pattern → ℕ
end_row pattern = last_row (slice_get pattern.halts.items (length pattern.halts.items - 1))

-- the call at a place: the first one of a journey has no arrival, the last no departure, and the others are shifted to the start
abbrev pub call_at : Pattern → ℕ → Halt → PlannedPlace → Call
call_at pattern start halt place = record {
  stop = place.stop;
  arrives = cond (halt.first == begin_row pattern) None (Some (shifted pattern.begin start halt.arrives));
  departs = cond (halt.last == end_row pattern) None (Some (shifted pattern.begin start halt.departs));
}

abbrev pub call_line : Pattern → ℕ → Halt → Option PlannedPlace → Text
call_line pattern start halt None = []
call_line pattern start halt (Some place) = text_of_call (call_at pattern start halt place)

unfoldable pub halt_text : Plan → Pattern → ℕ → Halt → Text
halt_text plan pattern start halt = call_line pattern start halt (place_of plan halt.place)

abbrev pub calls_text : Plan → Option Pattern → ℕ → Text
calls_text plan None start = []
calls_text plan (Some pattern) start = flat_map (halt_text plan pattern start) pattern.halts.items

-- a journey and its calls
unfoldable pub journey_lines : Plan → PlannedJourney → Text
journey_lines plan journey = text_of_journey journey ++ calls_text plan (slice_get plan.patterns.items journey.pattern) journey.start

-- the text of a plan: its head, places, neighbours, services, and journeys with their calls
unfoldable pub text_of : Settings → Plan → Text
text_of settings plan =
    head_text settings.code (string_bytes settings.zone) ++ flat_map text_of_place plan.places.items ++ flat_map text_of_neighbour plan.neighbours.items
    ++ flat_map text_of_service plan.services.items ++ flat_map (journey_lines plan) plan.journeys.items
