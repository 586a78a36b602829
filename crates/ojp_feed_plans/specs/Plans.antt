-- What a plan of a feed keeps.
use Rattle.std.specs.Prelude.{◌≡◌, ℕ, ◌+◌, Bool, true, false, cond, List, [], ◌∷◌, map, length}
use Rattle.std.specs.List.{All}
use Rattle.ojp_feed_rows.specs.declared.feed.Feed.{Feed}
use Rattle.ojp_feed_trips.specs.declared.fates.Fate.{Fate}
use Rattle.ojp_feed_trips.specs.declared.fates.Fate.TheVariants.{Written}
use Rattle.ojp_feed_trips.specs.declared.weighing.Pattern.{Pattern}
use Rattle.ojp_feed_trips.specs.declared.weighing.Weighed.{Weighed}
use Rattle.ojp_feed_trips.specs.declared.weighing.Weighed.TheVariants.{Written as AsPattern, Left}
use Rattle.ojp_feed_plans.specs.Journeys.{AreComplete, IsJourneyOf, IsPatternOf}
use Rattle.ojp_feed_plans.specs.Tallies.{tally_of, total}
use Rattle.ojp_feed_plans.specs.declared.plans.Plan.{Plan}

-- the trip is written
abbrev pub is_written : Fate → Bool
is_written Written = true
is_written _ = false

-- the numbers of the trips that are written, counted from n
abbrev pub written_from : ℕ → List Fate → List ℕ
written_from n [] = []
written_from n (fate ∷ fates) = cond (is_written fate) (n ∷ written_from (n + 1) fates) (written_from (n + 1) fates)

-- the trips of the patterns
abbrev pub trips_of : List Pattern → List ℕ
trips_of patterns = map (λ (pattern : Pattern). pattern.trip) patterns

-- what becomes of a trip that is weighed, and its pattern where it is written
abbrev pub fate_of : Weighed → Fate
fate_of (AsPattern pattern) = Written
fate_of (Left fate) = fate

abbrev pub patterns_of : Weighed → List Pattern
patterns_of (AsPattern pattern) = pattern ∷ []
patterns_of (Left fate) = []

-- the first trips of the feed are weighed: each has a fate, and the patterns are those of the trips that are written
pub record AreFirstWeighed (feed : Feed) (places : List ℕ) (fates : List Fate) (patterns : List Pattern) (n : ℕ) : Type 0 where
  pub each : length fates ≡ n
  pub written : trips_of patterns ≡ written_from 0 fates
  pub stem : All (IsPatternOf feed places) patterns

-- all trips of the feed are
abbrev pub AreWeighed : Feed → List ℕ → List Fate → List Pattern → Type 0
AreWeighed feed places fates patterns = AreFirstWeighed feed places fates patterns (length feed.trips.items)

-- each trip of the feed is written or left out for one reason, and the written ones are those of the patterns, in order
pub record AddsUp (feed : Feed) (plan : Plan) : Type 0 where
  pub each : length plan.fates.items ≡ length feed.trips.items
  pub written : trips_of plan.patterns.items ≡ written_from 0 plan.fates.items
  pub counted : plan.counts.tally ≡ tally_of plan.fates.items
  pub all : total plan.counts.tally ≡ length feed.trips.items

-- the patterns are those of trips, and each journey stems from one of them and a departure of its trip, on days of the trip
pub record IsSound (feed : Feed) (plan : Plan) : Type 0 where
  pub patterns : All (IsPatternOf feed plan.of_stop.items) plan.patterns.items
  pub journeys : All (IsJourneyOf feed plan.patterns.items) plan.journeys.items

-- each departure of each trip that is written has its journeys on all days of the trip
abbrev pub IsComplete : Feed → Plan → Type 0
IsComplete feed plan = AreComplete feed plan.patterns.items plan.journeys.items

-- each trip that is written or left out, counted once, and each journey as its trip has it, and all of these
pub record IsPlanOf (feed : Feed) (plan : Plan) : Type 0 where
  pub adds_up : AddsUp feed plan
  pub sound : IsSound feed plan
  pub complete : IsComplete feed plan
