-- What is kept of the contents: entries by their names, and the calls of all journeys in one row.
use Rattle.std.specs.Prelude.{ℕ, ◌≤◌, ◌≡◌, List, [], ◌∷◌, Option, Some, None, drop, slice_range, slice_get, option_map, unwrap_or, bytes_eq, position}
use Rattle.ojp_values.specs.Texts.{Text}
use Rattle.ojp_timetable.specs.Tables.{Place, Service, Journey, Call}
use Rattle.ojp_timetable.specs.declared.kept.PlaceFacts.{PlaceFacts}
use Rattle.ojp_timetable.specs.declared.kept.FoundCall.{FoundCall}
use Rattle.ojp_timetable.specs.declared.kept.KeptCall.{KeptCall}
use Rattle.ojp_timetable.specs.declared.kept.SaidCall.{SaidCall}
use Rattle.ojp_timetable.specs.declared.kept.Head.{Head}
use Rattle.ojp_timetable.specs.declared.file.lines.Dates.{Dates}

abbrev pub region_kept : Option Text → Text
region_kept None = []
region_kept (Some code) = code

abbrev pub place_kept : Text × PlaceFacts → Place
place_kept entry = record { stop = entry.0; change = entry.1.change; name = entry.1.name }

-- what is kept of a place beside its stop
abbrev pub facts_of : Place → PlaceFacts
facts_of place = record { change = place.change; name = place.name }

-- stops, and calls at them
pub record StopsAndCalls : Type 0 where
  pub places : List Place
  pub calls : List Call

abbrev pub no_stops : StopsAndCalls
no_stops = record { places = []; calls = [] }

-- the reference of the stop of that number
abbrev pub stop_of : List Place → ℕ → Text
stop_of places number = unwrap_or (option_map (λ (place : Place). place.stop) (slice_get places number)) []

-- a call that is kept is at the stop of its number
abbrev pub call_kept : List Place → KeptCall → Call
call_kept places kept = record { stop = stop_of places kept.place; arrives = kept.arrives; departs = kept.departs }

-- the number is that of the first place of the stop
abbrev pub HasNumber : List Place → Text → ℕ → Type 0
HasNumber places stop number = position (λ (place : Place). bytes_eq stop place.stop) places ≡ Some number

-- each call is kept by the number of its stop
abbrev pub AreAtPlaces : List Place → List KeptCall → Type 0
AreAtPlaces places [] = Unit {0}
AreAtPlaces places (kept ∷ more) = HasNumber places (stop_of places kept.place) kept.place × AreAtPlaces places more

-- the number is that of the call's stop
abbrev pub IsAtPlace : List Place → FoundCall → Type 0
IsAtPlace places found = HasNumber places found.call.stop found.place

-- the call is kept by the number of its stop
abbrev pub IsKeptByNumber : List Place → KeptCall → Type 0
IsKeptByNumber places kept = HasNumber places (stop_of places kept.place) kept.place

-- the stop of the call was looked up
abbrev pub IsLookedUp : List Place → SaidCall → Type 0
IsLookedUp places said = said.place ≡ position (λ (place : Place). bytes_eq said.stop.now place.stop) places

abbrev pub service_kept : Text × Dates → Service
service_kept entry = record { id = entry.0; first = entry.1.first; last = entry.1.last; marks = entry.1.marks }

abbrev pub journey_kept : Text × Head → List Call → Journey
journey_kept entry calls = record { id = entry.0; line = entry.1.line; service = entry.1.service; calls = calls }

-- the calls of a journey go on to where those of the next begin
abbrev pub journeys_of : List (Text × Head) → List Call → List Journey
journeys_of [] calls = []
journeys_of (entry ∷ []) calls = journey_kept entry (drop entry.1.first_call calls) ∷ []
journeys_of (entry ∷ next ∷ more) calls =
    journey_kept entry (slice_range calls entry.1.first_call next.1.first_call) ∷ journeys_of (next ∷ more) calls

-- the calls of the journeys begin at start or later and do not fall, and the last begin at the end at the latest
abbrev pub AreRising : ℕ → List (Text × Head) → ℕ → Type 0
AreRising start [] end = start ≤ end
AreRising start (entry ∷ more) end = (start ≤ entry.1.first_call) × AreRising entry.1.first_call more end

-- the first journey has the calls from the first on, and no call stands before it
abbrev pub AreInRow : List (Text × Head) → ℕ → Type 0
AreInRow [] end = end ≡ 0
AreInRow (entry ∷ more) end = (entry.1.first_call ≡ 0) × AreRising 0 more end

-- where the calls of the journey behind the one of that number begin, which is the end of all calls behind the last
abbrev pub end_at : List (Text × Head) → ℕ → ℕ → ℕ
end_at entries i end = unwrap_or (option_map (λ (e : Text × Head). e.1.first_call) (slice_get (drop 1 entries) i)) end
