-- The events that were found among the first calls of a timetable.
use Rattle.std.specs.Prelude.{◌≡◌, ℕ, ◌+◌, ◌<◌, ◌≤◌, ◌↔◌, List, ◌⊎◌, Some, insert, length, position, slice_get, take, unwrap_or}
use Rattle.ojp_values.specs.Lists.{Among, IsRising}
use Rattle.ojp_values.specs.declared.asks.EventAsk.{EventAsk}
use Rattle.ojp_values.specs.declared.trips.Event.{Event}
use Rattle.ojp_timetable.specs.Tables.{Timetable, Journey}
use Rattle.ojp_timetable.specs.declared.calls.Call.{Call}
use Rattle.ojp_timetable.specs.Runs.{RunsOn, moment, day_long}
use Rattle.ojp_timetable.specs.Answers.{event_lt, offset_of}

-- a call of a run: the journey and the call by their numbers, from 0, and the day
pub record RunCall : Type 0 where
  pub journey : ℕ
  pub position : ℕ
  pub day : ℕ

-- the call is one of the timetable
pub record IsCalled (table : Timetable) (journey position : ℕ) : Type 0 where
  pub of : Journey
  pub call : Call
  pub at : slice_get table.journeys journey ≡ Some of
  pub call_at : slice_get of.calls position ≡ Some call

-- the event is that of the call, which is at the asked stop, of the asked kind and within the asked day
pub record IsEventOf (table : Timetable) (ask : EventAsk) (event : Event) (at : RunCall) : Type 0 where
  pub journey : Journey
  pub call : Call
  pub offset : ℕ
  pub read : slice_get table.journeys at.journey ≡ Some journey
  pub runs : RunsOn table journey.service at.day
  pub call_at : slice_get journey.calls at.position ≡ Some call
  pub stop : call.stop ≡ ask.stop
  pub is_offset : offset_of ask.kind call ≡ Some offset
  pub from : ask.start ≤ moment table at.day offset
  pub to : moment table at.day offset ≤ ask.start + day_long
  pub is : event ≡ record { region = table.region; journey = journey.id; line = journey.line; day = at.day; stop = ask.stop; order = at.position + 1; moment = moment table at.day offset }

-- the call makes no event on the day
abbrev pub HasNoEvent : Timetable → EventAsk → ℕ → ℕ → ℕ → Type 0
HasNoEvent table ask journey position day =
    (event : Event) → IsEventOf table ask event (record { journey = journey; position = position; day = day }) → ⊥

-- the call comes before that call of that day: of an earlier journey, or an earlier call, or on an earlier day
abbrev pub IsBefore : RunCall → ℕ → ℕ → ℕ → Type 0
IsBefore at journey position day =
    (at.journey < journey) ⊎ ((at.journey ≡ journey) × ((at.position < position) ⊎ ((at.position ≡ position) × (at.day < day))))

-- the events with one more in its place, before the first that it is before
abbrev pub with_event : List Event → Event → List Event
with_event events event = insert events (unwrap_or (position (event_lt event) events) (length events)) event

-- the events are the first of those of all calls before that one, as many as were asked
pub record AreFirst (table : Timetable) (ask : EventAsk) (journey position day : ℕ) (events : List Event) : Type 0 where
  pub all : List Event
  pub just_these : (event : Event) → Among event all ↔ ((at : RunCall) × IsBefore at journey position day × IsEventOf table ask event at)
  pub rising : IsRising event_lt all
  pub cut : events ≡ take ask.number all
