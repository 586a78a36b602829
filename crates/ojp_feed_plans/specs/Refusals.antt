-- Why a feed has no plan.
use Rattle.std.specs.Prelude.{◌≡◌, ℕ, ◌<◌, ◌⊎◌, List, Option, Some, None, length, slice_get}
use Rattle.ojp_calendars.specs.declared.day_box.DayBox.{DayBox}
use Rattle.ojp_feed_labels.specs.Doubles.{AreDoubled}
use Rattle.ojp_feed_rows.specs.declared.feed.Feed.{Feed}
use Rattle.ojp_feed_trips.specs.declared.fates.Fate.{Fate}
use Rattle.ojp_feed_trips.specs.declared.weighing.Pattern.{Pattern}
use Rattle.ojp_feed_plans.specs.Days.{AreBoxesIn}
use Rattle.ojp_feed_plans.specs.Journeys.{AreAllRuns, calls_from, runs_from}
use Rattle.ojp_feed_plans.specs.Labels.{AreLabelled, stop_ids, trip_ids}
use Rattle.ojp_feed_plans.specs.Plans.{AreWeighed}
use Rattle.ojp_feed_plans.specs.Served.{served_stops}
use Rattle.ojp_feed_plans.specs.declared.plans.PlannedJourney.{PlannedJourney}
use Rattle.ojp_feed_plans.specs.declared.refusals.PlanRefused.{PlanRefused}
use Rattle.ojp_feed_plans.specs.declared.refusals.PlanRefused.TheVariants.{DoubledStops, DoubledTrips, TooManyJourneys, TooManyCalls, NoMemory}

-- so many journeys, or so many calls, are more than a timetable may have
abbrev pub IsPast : ℕ → ℕ → PlanRefused → Type 0
IsPast journeys calls TooManyJourneys = 20000 < journeys
IsPast journeys calls TooManyCalls = 100000 < calls
IsPast journeys calls NoMemory = Unit {0}
IsPast journeys calls (DoubledStops first second) = ⊥
IsPast journeys calls (DoubledTrips first second) = ⊥

-- the trip of the pattern of that number
abbrev pub trip_or : ℕ → Option Pattern → ℕ
trip_or number None = number
trip_or number (Some pattern) = pattern.trip

abbrev pub trip_number : List Pattern → ℕ → ℕ
trip_number patterns number = trip_or number (slice_get patterns number)

-- the trips of two patterns have one label among those of them all, and are these
pub record AreTwoTrips (feed : Feed) (patterns : List Pattern) (first second : ℕ) : Type 0 where
  pub one : ℕ
  pub other : ℕ
  pub doubled : AreDoubled 21 (trip_ids feed patterns) one other
  pub first_is : trip_number patterns one ≡ first
  pub second_is : trip_number patterns other ≡ second

-- two of the journeys, one behind the other, have one label and are of these trips
pub record AreAlike (patterns : List Pattern) (journeys : List PlannedJourney) (first second : ℕ) : Type 0 where
  pub one : ℕ
  pub other : ℕ
  pub order : one < other
  pub one_journey : PlannedJourney
  pub other_journey : PlannedJourney
  pub one_at : slice_get journeys one ≡ Some one_journey
  pub other_at : slice_get journeys other ≡ Some other_journey
  pub label : one_journey.label ≡ other_journey.label
  pub first_is : trip_number patterns one_journey.pattern ≡ first
  pub second_is : trip_number patterns other_journey.pattern ≡ second

-- no labels are given for the ids of trips: those of two have one
abbrev pub AreIdsRefused : Feed → List Pattern → PlanRefused → Type 0
AreIdsRefused feed patterns (DoubledTrips first second) = AreTwoTrips feed patterns first second
AreIdsRefused feed patterns NoMemory = Unit {0}
AreIdsRefused feed patterns (DoubledStops first second) = ⊥
AreIdsRefused feed patterns TooManyJourneys = ⊥
AreIdsRefused feed patterns TooManyCalls = ⊥

-- two journeys have one label
abbrev pub AreLabelsRefused : List Pattern → List PlannedJourney → PlanRefused → Type 0
AreLabelsRefused patterns journeys (DoubledTrips first second) = AreAlike patterns journeys first second
AreLabelsRefused patterns journeys NoMemory = Unit {0}
AreLabelsRefused patterns journeys (DoubledStops first second) = ⊥
AreLabelsRefused patterns journeys TooManyJourneys = ⊥
AreLabelsRefused patterns journeys TooManyCalls = ⊥

-- two journeys, of all that the patterns have, have one label and are of these trips
pub record AreTwoJourneys (feed : Feed) (boxes : List (List DayBox)) (patterns : List Pattern) (first second : ℕ) : Type 0 where
  pub journeys : List PlannedJourney
  pub all : AreAllRuns feed boxes patterns journeys
  pub labelled : AreLabelled feed boxes patterns journeys
  pub alike : AreAlike patterns journeys first second

-- the journeys of the patterns are refused, where the services of the feed have these boxes: two trips or two journeys have one
-- label, or the journeys or their calls are too many
abbrev pub AreJourneysRefused : Feed → List (List DayBox) → List Pattern → PlanRefused → Type 0
AreJourneysRefused feed boxes patterns (DoubledTrips first second) = AreTwoTrips feed patterns first second ⊎ AreTwoJourneys feed boxes patterns first second
AreJourneysRefused feed boxes patterns refused = IsPast (length (runs_from feed boxes 0 patterns)) (calls_from feed boxes 0 patterns) refused

-- the journeys of the trips that are written are refused
pub record AreRefused (feed : Feed) (refused : PlanRefused) : Type 0 where
  pub places : List ℕ
  pub fates : List Fate
  pub patterns : List Pattern
  pub boxes : List (List DayBox)
  pub weighed : AreWeighed feed places fates patterns
  pub boxed : AreBoxesIn feed boxes
  pub why : AreJourneysRefused feed boxes patterns refused

-- two of the stops that the patterns serve, by their numbers, have one label among those of them all
pub record AreTwoStops (feed : Feed) (patterns : List Pattern) (first second : ℕ) : Type 0 where
  pub one : ℕ
  pub other : ℕ
  pub doubled : AreDoubled 32 (stop_ids feed (served_stops feed patterns)) one other
  pub first_is : slice_get (served_stops feed patterns) one ≡ Some first
  pub second_is : slice_get (served_stops feed patterns) other ≡ Some second

-- two of the stops that the trips that are written serve
pub record AreStopsRefused (feed : Feed) (first second : ℕ) : Type 0 where
  pub places : List ℕ
  pub fates : List Fate
  pub patterns : List Pattern
  pub weighed : AreWeighed feed places fates patterns
  pub two : AreTwoStops feed patterns first second

-- a feed has no plan: two of its stops have one label, or the journeys of its trips are refused
abbrev pub IsPlanRefused : Feed → PlanRefused → Type 0
IsPlanRefused feed (DoubledStops first second) = AreStopsRefused feed first second
IsPlanRefused feed NoMemory = Unit {0}
IsPlanRefused feed refused = AreRefused feed refused

-- the stops that the patterns serve have no labels: two of them would have one
abbrev pub ArePlacesRefused : Feed → List Pattern → PlanRefused → Type 0
ArePlacesRefused feed patterns (DoubledStops first second) = AreTwoStops feed patterns first second
ArePlacesRefused feed patterns NoMemory = Unit {0}
ArePlacesRefused feed patterns (DoubledTrips first second) = ⊥
ArePlacesRefused feed patterns TooManyJourneys = ⊥
ArePlacesRefused feed patterns TooManyCalls = ⊥
