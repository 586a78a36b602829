-- The labels of a plan.
use Rattle.std.specs.Prelude.{◌≡◌, ℕ, ◌+◌, ◌==◌, ◌&&◌, ◌||◌, Bool, cond, nat_lt, not, List, [], Option, Some, None, bytes_eq, length, map, slice_get}
use Rattle.std.specs.List.{flat_map, list_any, range_with_len}
use Rattle.std.specs.Option.{is_some}
use Rattle.std.specs.String.{string_bytes}
use Rattle.indexmap.specs.IndexMap.{IndexMap, get}
use Rattle.ojp_values.specs.Texts.{Text}
use Rattle.ojp_calendars.specs.declared.day_box.DayBox.{DayBox}
use Rattle.ojp_feed_rows.specs.declared.feed.Feed.{Feed}
use Rattle.ojp_feed_rows.specs.declared.stops.Stop.{Stop}
use Rattle.ojp_feed_rows.specs.declared.trips.Trip.{Trip}
use Rattle.ojp_feed_labels.specs.Doubles.{own_label, own_labels}
use Rattle.ojp_feed_labels.specs.Labels.{hashed}
use Rattle.ojp_feed_labels.specs.Repeats.{repeated}
use Rattle.ojp_feed_trips.specs.Starts.{departures}
use Rattle.ojp_feed_trips.specs.declared.weighing.Pattern.{Pattern}
use Rattle.ojp_feed_plans.specs.Days.{boxes_of_service}
use Rattle.ojp_feed_plans.specs.declared.plans.PlannedJourney.{PlannedJourney}

-- ---- ids

-- the id of a stop, and nothing where there is no such stop
abbrev pub stop_id : Option Stop → Text
stop_id None = []
stop_id (Some stop) = string_bytes stop.id

-- the ids of the stops of these numbers
unfoldable pub stop_ids : Feed → List ℕ → List Text
stop_ids feed numbers = map (λ (number : ℕ). stop_id (slice_get feed.stops.items number)) numbers

-- the id of a trip, and nothing where there is no such trip
abbrev pub trip_id : Option Trip → Text
trip_id None = []
trip_id (Some trip) = string_bytes trip.id

abbrev pub pattern_id : Feed → Pattern → Text
pattern_id feed pattern = trip_id (slice_get feed.trips.items pattern.trip)

-- the ids of the trips of the patterns
unfoldable pub trip_ids : Feed → List Pattern → List Text
trip_ids feed patterns = map (pattern_id feed) patterns

-- ---- labels of journeys

-- the trip departs by rows of `frequencies.txt`
abbrev pub repeats : Trip → Bool
repeats trip = not (length trip.frequencies.items == 0)

-- the label of a journey of a trip with that label: told by its departure where the trip is repeated, and by the number of its box
-- where there are several
abbrev pub journey_label : Bool → ℕ → Text → ℕ → ℕ → Text
journey_label is_repeated count trip start place =
    repeated trip (cond is_repeated (Some start) None) (cond (nat_lt 1 count) (Some (place + 1)) None)

-- those of a departure, for each of so many boxes
unfoldable pub start_labels : Bool → ℕ → Text → ℕ → List Text
start_labels is_repeated count trip start = map (journey_label is_repeated count trip start) (range_with_len 0 count)

-- those of all the departures
abbrev pub starts_labels : Bool → ℕ → Text → List ℕ → List Text
starts_labels is_repeated count trip starts = flat_map (start_labels is_repeated count trip) starts

-- the labels of the journeys of a trip are told from its own, and one of them is the label of a trip
abbrev pub strays : (Text → Bool) → Bool → ℕ → Text → List ℕ → Bool
strays is_taken is_repeated count trip starts = (is_repeated || nat_lt 1 count) && list_any is_taken (starts_labels is_repeated count trip starts)

-- the label that a trip's journeys have theirs of: its own, and the hashed form where they would stray
abbrev pub stem : (Text → Bool) → Text → Bool → ℕ → Text → List ℕ → Text
stem is_taken id is_repeated count trip starts = cond (strays is_taken is_repeated count trip starts) (hashed 21 id) trip

-- the labels of the journeys of a trip that departs so
unfoldable pub stem_labels : (Text → Bool) → Text → Bool → ℕ → Text → List ℕ → List Text
stem_labels is_taken id is_repeated count trip starts =
    starts_labels is_repeated count (stem is_taken id is_repeated count trip starts) starts

-- the labels of the journeys of a trip that has that label and so many boxes
abbrev pub labels_of_trip : (Text → Bool) → List (List DayBox) → Text → Option Trip → List Text
labels_of_trip is_taken boxes label None = []
labels_of_trip is_taken boxes label (Some trip) =
    stem_labels is_taken (string_bytes trip.id) (repeats trip) (length (boxes_of_service boxes trip.service)) label (departures trip)

-- the label of a trip is at most 21 bytes long, which leaves room for what tells its journeys apart
abbrev pub trip_label : Feed → List Pattern → Pattern → Text
trip_label feed patterns pattern = own_label 21 (trip_ids feed patterns) (pattern_id feed pattern)

-- the label is one of these
abbrev pub is_among : List Text → Text → Bool
is_among labels label = list_any (λ (one : Text). bytes_eq one label) labels

-- one of the patterns' trips has the label
unfoldable pub is_trip_label : Feed → List Pattern → Text → Bool
is_trip_label feed patterns label = is_among (own_labels 21 (trip_ids feed patterns)) label

-- the label is a key of the map
abbrev pub is_key : {S : Type 0} → IndexMap Text ℕ S → Text → Bool
is_key seen label = is_some (get bytes_eq seen label)

-- the keys of the map are these labels
abbrev pub AreKeys : {S : Type 0} → List Text → IndexMap Text ℕ S → Type 0
AreKeys labels seen = (label : Text) → is_key seen label ≡ is_among labels label

-- the labels of the journeys of one of the patterns
unfoldable pub pattern_labels : Feed → List (List DayBox) → List Pattern → Pattern → List Text
pattern_labels feed boxes patterns pattern =
    labels_of_trip (is_trip_label feed patterns) boxes (trip_label feed patterns pattern) (slice_get feed.trips.items pattern.trip)

abbrev pub labels_of : List PlannedJourney → List Text
labels_of journeys = map (λ (journey : PlannedJourney). journey.label) journeys

-- the journeys of the patterns are labelled so, where the services of the feed have these boxes
unfoldable pub AreLabelled : Feed → List (List DayBox) → List Pattern → List PlannedJourney → Type 0
AreLabelled feed boxes patterns journeys = labels_of journeys ≡ flat_map (pattern_labels feed boxes patterns) patterns
