-- Which replies fit an ask: what a reply must be, so far as the ask and the region's code tell.
use Rattle.std.specs.Prelude.{◌≡◌, ℕ, ◌+◌, ◌<◌, ◌≤◌, List, [], ◌∷◌, Option, Some, None, length}
use Rattle.ojp_values.specs.Lists.{Each, Pairwise, IsRising}
use Rattle.ojp_values.specs.Texts.{Text}
use Rattle.ojp_values.specs.declared.asks.TripAsk.{TripAsk}
use Rattle.ojp_values.specs.declared.asks.MultiAsk.{MultiAsk}
use Rattle.ojp_values.specs.declared.asks.EventAsk.{EventAsk}
use Rattle.ojp_values.specs.declared.asks.Ask.{Ask}
use Rattle.ojp_values.specs.declared.asks.Ask.TheVariants as asks
use Rattle.ojp_values.specs.declared.trips.Leg.{Leg}
use Rattle.ojp_values.specs.declared.trips.Trip.{Trip}
use Rattle.ojp_values.specs.declared.trips.Event.{Event}
use Rattle.ojp_values.specs.declared.trips.Point.{Point}
use Rattle.ojp_values.specs.declared.replies.Fault.TheVariants as faults
use Rattle.ojp_values.specs.declared.replies.TripResult.{TripResult}
use Rattle.ojp_values.specs.declared.replies.TripResult.TheVariants as results
use Rattle.ojp_values.specs.declared.replies.TripReply.{TripReply}
use Rattle.ojp_values.specs.declared.replies.TripReply.TheVariants as trip_replies
use Rattle.ojp_values.specs.declared.replies.MultiReply.{MultiReply}
use Rattle.ojp_values.specs.declared.replies.MultiReply.TheVariants as multi_replies
use Rattle.ojp_values.specs.declared.replies.EventsReply.{EventsReply}
use Rattle.ojp_values.specs.declared.replies.EventsReply.TheVariants as events_replies
use Rattle.ojp_values.specs.declared.replies.PointsReply.{PointsReply}
use Rattle.ojp_values.specs.declared.replies.PointsReply.TheVariants as points_replies
use Rattle.ojp_values.specs.declared.replies.Delivery.{Delivery}
use Rattle.ojp_values.specs.declared.replies.Delivery.TheVariants as deliveries
use Rattle.ojp_timetable.specs.Runs.{day_long}
use Rattle.ojp_timetable.specs.Journeys.{Standing, IsAt, alighted, reached, AllFollow}
use Rattle.ojp_timetable.specs.Answers.{Agrees, event_lt}
use Rattle.ojp_timetable.specs.Points.{IsPointOf, point_lt}

-- the next leg fits: it is of the region and boards where one stands, a second later at least
abbrev pub FitsNext : Text → Standing → Leg → Type 0
FitsNext region at leg = (leg.region ≡ region) × (leg.board ≡ at.stop) × (at.moment < leg.departs) × (leg.departs ≤ leg.arrives)

-- the trip leads by legs of the region from o, not before t, to d within the requested day, and its totals
-- are those of its legs
pub record FitsTrip (region o : Text) (t : ℕ) (d : Text) (trip : Trip) : Type 0 where
  pub first : Leg
  pub rest : List Leg
  pub totals : Agrees trip first rest
  pub of_region : first.region ≡ region
  pub boards : first.board ≡ o
  pub leaves : t ≤ first.departs
  pub rides : first.departs ≤ first.arrives
  pub follow : AllFollow (FitsNext region) (alighted first) rest
  pub ends : IsAt (reached (alighted first) rest) d trip.end
  pub within : trip.end ≤ t + day_long

-- the result is a fitting trip, or says that there is none to this target
abbrev pub FitsResult : Text → Text → ℕ → Text → TripResult → Type 0
FitsResult region o t d (results.Trip trip) = FitsTrip region o t d trip
FitsResult region o t d (results.NoTrip stop) = stop ≡ d

-- a trip reply is a fitting trip, or says that there is none to the target
abbrev pub FitsTripReply : Text → TripAsk → TripReply → Type 0
FitsTripReply region ask (trip_replies.Trip trip) = FitsTrip region ask.origin ask.start ask.target trip
FitsTripReply region ask (trip_replies.Fault (faults.NoTrip stop)) = stop ≡ ask.target
FitsTripReply region ask (trip_replies.Fault fault) = ⊥

-- a multi reply has one fitting result for each target, in their order
abbrev pub FitsMultiReply : Text → MultiAsk → MultiReply → Type 0
FitsMultiReply region ask (multi_replies.Results found) = Pairwise (FitsResult region ask.origin ask.start) ask.targets found
FitsMultiReply region ask (multi_replies.Fault fault) = ⊥

-- the event is one of the region at the asked stop, within the asked day
pub record FitsEvent (region : Text) (ask : EventAsk) (event : Event) : Type 0 where
  pub of_region : event.region ≡ region
  pub stop : event.stop ≡ ask.stop
  pub from : ask.start ≤ event.moment
  pub to : event.moment ≤ ask.start + day_long

-- an events reply has at most the asked number of fitting events, in their order, or says that the stop is unknown
abbrev pub FitsEventsReply : Text → EventAsk → EventsReply → Type 0
FitsEventsReply region ask (events_replies.Events events) =
    (length events ≤ ask.number) × Each (FitsEvent region ask) events × IsRising event_lt events
FitsEventsReply region ask (events_replies.Fault (faults.StopUnknown stop)) = stop ≡ ask.stop
FitsEventsReply region ask (events_replies.Fault fault) = ⊥

-- a points reply has at most 255 rising entries of the region; where a place was asked it has the one entry of
-- that place, or says that it is unknown
abbrev pub FitsPointsReply : Text → Option Text → PointsReply → Type 0
FitsPointsReply region None (points_replies.Points points) =
    (length points ≤ 255) × Each (IsPointOf region) points × IsRising point_lt points
FitsPointsReply region (Some place) (points_replies.Points points) =
    (point : Point) × (points ≡ point ∷ []) × (point.stop ≡ place) × IsPointOf region point
FitsPointsReply region (Some place) (points_replies.Fault (faults.StopUnknown stop)) = stop ≡ place
FitsPointsReply region place (points_replies.Fault fault) = ⊥

-- the reply fits the ask to the region
abbrev pub Fits : Text → Ask → Delivery → Type 0
Fits region (asks.Trip ask) (deliveries.Trip reply) = FitsTripReply region ask reply
Fits region (asks.Multi ask) (deliveries.Multi reply) = FitsMultiReply region ask reply
Fits region (asks.Events ask) (deliveries.Events reply) = FitsEventsReply region ask reply
Fits region (asks.Points ask) (deliveries.Points reply) = FitsPointsReply region ask.place reply
Fits region ask reply = ⊥
