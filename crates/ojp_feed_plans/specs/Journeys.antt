-- The journeys of a plan, and the trips that they stem from.
use Rattle.std.specs.Prelude.{◌≡◌, ℕ, ◌+◌, ◌*◌, true, List, [], ◌∷◌, ◌++◌, Option, Some, None, length, map, slice_get}
use Rattle.std.specs.List.{Contains, flat_map}
use Rattle.ojp_calendars.specs.Days.{covers}
use Rattle.ojp_calendars.specs.declared.day_box.DayBox.{DayBox}
use Rattle.ojp_feed_rows.specs.declared.feed.Feed.{Feed}
use Rattle.ojp_feed_rows.specs.declared.services.Service.{Service}
use Rattle.ojp_feed_rows.specs.declared.trips.Trip.{Trip}
use Rattle.ojp_feed_trips.specs.Halts.{IsPattern}
use Rattle.ojp_feed_trips.specs.Starts.{IsStart, departures}
use Rattle.ojp_feed_trips.specs.declared.weighing.Pattern.{Pattern}
use Rattle.ojp_feed_plans.specs.Days.{AreBoxesIn, boxes_of_service, is_within, runs}
use Rattle.ojp_feed_plans.specs.Labels.{AreLabelled}
use Rattle.ojp_feed_plans.specs.declared.plans.PlannedJourney.{PlannedJourney}

-- the pattern is one of the trip of its number, whose stops have these places
pub record IsPatternOf (feed : Feed) (places : List ℕ) (pattern : Pattern) : Type 0 where
  pub trip : Trip
  pub at : slice_get feed.trips.items pattern.trip ≡ Some trip
  pub is : IsPattern trip pattern.trip places pattern

-- the service of the trip runs on the day, which is in the window
pub record RunsOn (feed : Feed) (trip : Trip) (day : ℕ) : Type 0 where
  pub number : ℕ
  pub service : Service
  pub named : trip.service ≡ Some number
  pub at : slice_get feed.services.items number ≡ Some service
  pub within : is_within feed.window day ≡ true
  pub runs : runs service day ≡ true

-- the journey is of that pattern, departs so, and runs on the days of that box
pub record IsMade (number start : ℕ) (days : DayBox) (journey : PlannedJourney) : Type 0 where
  pub of : journey.pattern ≡ number
  pub departs : journey.start ≡ start
  pub on : journey.days ≡ days

-- the same on the days of one of the boxes
pub record IsOfStart (number start : ℕ) (boxes : List DayBox) (journey : PlannedJourney) : Type 0 where
  pub of : journey.pattern ≡ number
  pub departs : journey.start ≡ start
  pub on : Contains boxes journey.days

-- the same for a departure of the trip
pub record IsOfTrip (trip : Trip) (number : ℕ) (boxes : List DayBox) (journey : PlannedJourney) : Type 0 where
  pub of : journey.pattern ≡ number
  pub departs : IsStart trip journey.start
  pub on : Contains boxes journey.days

-- the same for the trip of a pattern, where the services of the feed have these boxes
pub record IsOfPattern (feed : Feed) (boxes : List (List DayBox)) (number : ℕ) (pattern : Pattern) (journey : PlannedJourney) : Type 0 where
  pub trip : Trip
  pub at : slice_get feed.trips.items pattern.trip ≡ Some trip
  pub is : IsOfTrip trip number (boxes_of_service boxes trip.service) journey

-- the same for one of the patterns and its trip, where the services of the feed have these boxes
pub record IsMadeOf (feed : Feed) (patterns : List Pattern) (boxes : List (List DayBox)) (journey : PlannedJourney) : Type 0 where
  pub pattern : Pattern
  pub trip : Trip
  pub pattern_at : slice_get patterns journey.pattern ≡ Some pattern
  pub trip_at : slice_get feed.trips.items pattern.trip ≡ Some trip
  pub departs : IsStart trip journey.start
  pub on : Contains (boxes_of_service boxes trip.service) journey.days

-- the journey stems from one of the patterns and from a departure of its trip, and runs on days of the trip alone
pub record IsJourneyOf (feed : Feed) (patterns : List Pattern) (journey : PlannedJourney) : Type 0 where
  pub pattern : Pattern
  pub trip : Trip
  pub pattern_at : slice_get patterns journey.pattern ≡ Some pattern
  pub trip_at : slice_get feed.trips.items pattern.trip ≡ Some trip
  pub start : IsStart trip journey.start
  pub days : (day : ℕ) → covers journey.days day ≡ true → RunsOn feed trip day

-- ---- all journeys of the patterns, in their order

-- what of a journey is not its labels: its pattern by number, its departure and its days
pub record Run : Type 0 where
  pub pattern : ℕ
  pub start : ℕ
  pub days : DayBox

abbrev pub run_of : PlannedJourney → Run
run_of journey = record { pattern = journey.pattern; start = journey.start; days = journey.days }

-- a pattern runs at a departure on the days of each of the boxes
abbrev pub runs_of_start : ℕ → List DayBox → ℕ → List Run
runs_of_start number boxes start = map (λ (box : DayBox). record { pattern = number; start = start; days = box }) boxes

-- and so at each of the departures
abbrev pub runs_of_starts : ℕ → List DayBox → List ℕ → List Run
runs_of_starts number boxes starts = flat_map (runs_of_start number boxes) starts

-- a trip at each of its departures on the days of its service
abbrev pub runs_of_trip : List (List DayBox) → ℕ → Option Trip → List Run
runs_of_trip boxes number None = []
runs_of_trip boxes number (Some trip) = runs_of_starts number (boxes_of_service boxes trip.service) (departures trip)

-- the runs of the pattern of that number
abbrev pub runs_at : Feed → List (List DayBox) → ℕ → Pattern → List Run
runs_at feed boxes number pattern = runs_of_trip boxes number (slice_get feed.trips.items pattern.trip)

-- the runs of patterns that are numbered from n on
abbrev pub runs_from : Feed → List (List DayBox) → ℕ → List Pattern → List Run
runs_from feed boxes n [] = []
runs_from feed boxes n (pattern ∷ patterns) = runs_at feed boxes n pattern ++ runs_from feed boxes (n + 1) patterns

-- how many calls these have
abbrev pub calls_from : Feed → List (List DayBox) → ℕ → List Pattern → ℕ
calls_from feed boxes n [] = 0
calls_from feed boxes n (pattern ∷ patterns) = length (runs_at feed boxes n pattern) * length pattern.halts.items + calls_from feed boxes (n + 1) patterns

-- the journeys are those of all the patterns, where the services of the feed have these boxes
unfoldable pub AreAllRuns : Feed → List (List DayBox) → List Pattern → List PlannedJourney → Type 0
AreAllRuns feed boxes patterns journeys = map run_of journeys ≡ runs_from feed boxes 0 patterns

-- the journeys of the patterns are complete: there are boxes of which exactly one is over each day of the window on which a service
-- runs, and for each departure of a pattern's trip and each box of its service there is one journey, in this order, and no other;
-- and each has the label that its trip's id gives it
pub record AreComplete (feed : Feed) (patterns : List Pattern) (journeys : List PlannedJourney) : Type 0 where
  pub boxes : List (List DayBox)
  pub boxed : AreBoxesIn feed boxes
  pub all : AreAllRuns feed boxes patterns journeys
  pub labelled : AreLabelled feed boxes patterns journeys
