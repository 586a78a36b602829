-- What a region answers, by its own timetable.
use Rattle.std.specs.Prelude.{◌≡◌, ℕ, ◌+◌, ◌≤◌, ◌↔◌, not, ◌&&◌, ◌||◌, ◌==◌, nat_lt, Bool, List, [], ◌∷◌, Option, Some, None, length, take, find, option_map, if◌then◌else◌, slice_get, MatchBool}
use Rattle.std.specs.List.{list_any}
use Rattle.ojp_values.specs.Lists.{Among, Pairwise, IsRising}
use Rattle.ojp_values.specs.Texts.{Text, same, text_lt}
use Rattle.ojp_values.specs.declared.asks.TripAsk.{TripAsk}
use Rattle.ojp_values.specs.declared.asks.MultiAsk.{MultiAsk}
use Rattle.ojp_values.specs.declared.asks.EventAsk.{EventAsk}
use Rattle.ojp_values.specs.declared.asks.PointsAsk.{PointsAsk}
use Rattle.ojp_values.specs.declared.asks.Ask.{Ask}
use Rattle.ojp_values.specs.declared.asks.Ask.TheVariants as asks
use Rattle.ojp_values.specs.declared.kinds.EventKind.{EventKind}
use Rattle.ojp_values.specs.declared.kinds.EventKind.TheVariants.{Departure, Arrival}
use Rattle.ojp_values.specs.declared.trips.Leg.{Leg}
use Rattle.ojp_values.specs.declared.trips.Trip.{Trip}
use Rattle.ojp_values.specs.declared.trips.Event.{Event}
use Rattle.ojp_values.specs.declared.trips.Point.{Point}
use Rattle.ojp_values.specs.declared.replies.Fault.{Fault}
use Rattle.ojp_values.specs.declared.replies.Fault.TheVariants as faults
use Rattle.ojp_values.specs.declared.replies.TripResult.{TripResult}
use Rattle.ojp_values.specs.declared.replies.TripResult.TheVariants as results
use Rattle.ojp_values.specs.declared.replies.TripReply.{TripReply}
use Rattle.ojp_values.specs.declared.replies.TripReply.TheVariants as trip_replies
use Rattle.ojp_values.specs.declared.replies.MultiReply.TheVariants as multi_replies
use Rattle.ojp_values.specs.declared.replies.EventsReply.TheVariants as events_replies
use Rattle.ojp_values.specs.declared.replies.PointsReply.TheVariants as points_replies
use Rattle.ojp_values.specs.declared.replies.Delivery.{Delivery}
use Rattle.ojp_values.specs.declared.replies.Delivery.TheVariants as deliveries
use Rattle.ojp_timetable.specs.Tables.{Timetable, Journey, Call, has, point_of}
use Rattle.ojp_timetable.specs.Runs.{RunsOn, moment, day_long}
use Rattle.ojp_timetable.specs.Journeys.{Regional}

-- the totals are those of the legs
pub record Agrees (trip : Trip) (leg : Leg) (legs : List Leg) : Type 0 where
  pub legs_are : trip.legs ≡ leg ∷ legs
  pub start : trip.start ≡ leg.departs
  pub duration : trip.start + trip.duration ≡ trip.end
  pub transfers : trip.transfers ≡ length legs

-- the trip is a regional journey that arrives at the earliest moment, with its totals
pub record IsEarliestTrip (table : Timetable) (o : Text) (t : ℕ) (d : Text) (trip : Trip) : Type 0 where
  pub journey : Regional table o t d trip.end trip.legs
  pub earliest : (a : ℕ) (legs : List Leg) → Regional table o t d a legs → trip.end ≤ a
  pub first : Leg
  pub rest : List Leg
  pub totals : Agrees trip first rest

-- no regional journey leads there
abbrev pub HasNoTrip : Timetable → Text → ℕ → Text → Type 0
HasNoTrip table o t d = (a : ℕ) (legs : List Leg) → Regional table o t d a legs → ⊥

-- a target is answered by an earliest trip, or by its name where there is none
abbrev pub TargetAnswered : Timetable → Text → ℕ → Text → TripResult → Type 0
TargetAnswered table o t d (results.Trip trip) = IsEarliestTrip table o t d trip
TargetAnswered table o t d (results.NoTrip stop) = (stop ≡ d) × HasNoTrip table o t d

-- the fault of an ask: a target that is the origin, or else the first unknown stop, the origin first
abbrev pub targets_fault : Timetable → Text → List Text → Option Fault
targets_fault table o targets =
    if list_any (same o) targets then Some (faults.SameStop o)
    else option_map faults.StopUnknown (find (λ stop. not (has table stop)) (o ∷ targets))

-- the result, as the reply to a trip ask
abbrev pub reply_of : TripResult → TripReply
reply_of (results.Trip trip) = trip_replies.Trip trip
reply_of (results.NoTrip stop) = trip_replies.Fault (faults.NoTrip stop)

abbrev pub TripOutcome : Option Fault → Timetable → TripAsk → Delivery → Type 0
TripOutcome (Some fault) table ask delivery = delivery ≡ deliveries.Trip (trip_replies.Fault fault)
TripOutcome None table ask delivery =
    (result : TripResult) × TargetAnswered table ask.origin ask.start ask.target result × (delivery ≡ deliveries.Trip (reply_of result))

-- what a region answers to a trip ask
abbrev pub TripAnswered : Timetable → TripAsk → Delivery → Type 0
TripAnswered table ask delivery = TripOutcome (targets_fault table ask.origin (ask.target ∷ [])) table ask delivery

abbrev pub MultiOutcome : Option Fault → Timetable → MultiAsk → Delivery → Type 0
MultiOutcome (Some fault) table ask delivery = delivery ≡ deliveries.Multi (multi_replies.Fault fault)
MultiOutcome None table ask delivery =
    (found : List TripResult) × (delivery ≡ deliveries.Multi (multi_replies.Results found))
    × Pairwise (TargetAnswered table ask.origin ask.start) ask.targets found

-- what a region answers to an ask for many targets: one result for each target, in their order
abbrev pub MultiAnswered : Timetable → MultiAsk → Delivery → Type 0
MultiAnswered table ask delivery = MultiOutcome (targets_fault table ask.origin ask.targets) table ask delivery

-- the offset of the asked kind
abbrev pub offset_of : EventKind → Call → Option ℕ
offset_of Departure call = call.departs
offset_of Arrival call = call.arrives

-- the event is that of a call of a run, at the asked stop, of the asked kind, within the asked day
pub record IsEvent (table : Timetable) (ask : EventAsk) (event : Event) : Type 0 where
  pub journey : Journey
  pub day : ℕ
  pub i : ℕ
  pub call : Call
  pub offset : ℕ
  pub of_table : Among journey table.journeys
  pub runs : RunsOn table journey.service day
  pub at : slice_get journey.calls i ≡ Some call
  pub stop : call.stop ≡ ask.stop
  pub is_offset : offset_of ask.kind call ≡ Some offset
  pub from : ask.start ≤ moment table day offset
  pub to : moment table day offset ≤ ask.start + day_long
  pub is : event ≡ record { region = table.region; journey = journey.id; line = journey.line; day = day; stop = ask.stop; order = i + 1; moment = moment table day offset }

-- events are ordered by moment, region, journey, day and order
unfoldable pub event_lt : Event → Event → Bool
event_lt x y =
    nat_lt x.moment y.moment || (x.moment == y.moment && (text_lt x.region y.region || (same x.region y.region
    && (text_lt x.journey y.journey || (same x.journey y.journey && (nat_lt x.day y.day || (x.day == y.day && nat_lt x.order y.order)))))))

-- the events are the first of all, as many as were asked
pub record AreEvents (table : Timetable) (ask : EventAsk) (events : List Event) : Type 0 where
  pub all : List Event
  pub just_these : (event : Event) → Among event all ↔ IsEvent table ask event
  pub rising : IsRising event_lt all
  pub cut : events ≡ take ask.number all

-- what a region answers to an ask for stop events
abbrev pub EventsAnswered : Timetable → EventAsk → Delivery → Type 0
EventsAnswered table ask delivery =
    MatchBool (has table ask.stop)
    ((events : List Event) × AreEvents table ask events × (delivery ≡ deliveries.Events (events_replies.Events events)))
    (delivery ≡ deliveries.Events (events_replies.Fault (faults.StopUnknown ask.stop)))

abbrev pub points_reply : Text → Option Point → Delivery
points_reply place None = deliveries.Points (points_replies.Fault (faults.StopUnknown place))
points_reply place (Some point) = deliveries.Points (points_replies.Points (point ∷ []))

abbrev pub points_answer : Timetable → Option Text → Delivery
points_answer table None = deliveries.Points (points_replies.Points table.points)
points_answer table (Some place) = points_reply place (point_of table place)

-- what a region answers to an ask for its exchange points
abbrev pub PointsAnswered : Timetable → PointsAsk → Delivery → Type 0
PointsAnswered table ask delivery = delivery ≡ points_answer table ask.place

-- what a region answers
abbrev pub RegionAnswers : Timetable → Ask → Delivery → Type 0
RegionAnswers table (asks.Trip ask) delivery = TripAnswered table ask delivery
RegionAnswers table (asks.Multi ask) delivery = MultiAnswered table ask delivery
RegionAnswers table (asks.Events ask) delivery = EventsAnswered table ask delivery
RegionAnswers table (asks.Points ask) delivery = PointsAnswered table ask delivery
