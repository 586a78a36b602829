-- The limits of documents: numbers, and lengths of lists.
use Rattle.std.specs.Prelude.{ℕ, ◌≤◌, length, All}
use Rattle.ojp_values.specs.declared.asks.Ask.{Ask as Asks}
use Rattle.ojp_values.specs.declared.asks.Ask.TheVariants as asks
use Rattle.ojp_values.specs.declared.trips.Trip.{Trip}
use Rattle.ojp_values.specs.declared.trips.Neighbour.{Neighbour}
use Rattle.ojp_values.specs.declared.trips.Point.{Point}
use Rattle.ojp_values.specs.declared.replies.TripResult.{TripResult}
use Rattle.ojp_values.specs.declared.replies.TripResult.TheVariants as results
use Rattle.ojp_values.specs.declared.replies.TripReply.{TripReply}
use Rattle.ojp_values.specs.declared.replies.TripReply.TheVariants as trips
use Rattle.ojp_values.specs.declared.replies.MultiReply.{MultiReply}
use Rattle.ojp_values.specs.declared.replies.MultiReply.TheVariants as multis
use Rattle.ojp_values.specs.declared.replies.EventsReply.{EventsReply}
use Rattle.ojp_values.specs.declared.replies.EventsReply.TheVariants as events
use Rattle.ojp_values.specs.declared.replies.PointsReply.{PointsReply}
use Rattle.ojp_values.specs.declared.replies.PointsReply.TheVariants as points
use Rattle.ojp_values.specs.declared.replies.Delivery.{Delivery as Deliveries}
use Rattle.ojp_values.specs.declared.replies.Delivery.TheVariants as deliveries
use Rattle.ojp_values.specs.declared.documents.Doc.{Doc}
use Rattle.ojp_values.specs.declared.documents.Doc.TheVariants.{Ask, Delivery}

-- the number lies from low to high
abbrev pub IsBetween : ℕ → ℕ → ℕ → Type 0
IsBetween low high n = (low ≤ n) × (n ≤ high)

-- a change takes 1 to 7,200 seconds
abbrev pub IsChange : ℕ → Type 0
IsChange seconds = IsBetween 1 7_200 seconds

-- a trip has 1 to 86,401 legs
abbrev pub IsWellTrip : Trip → Type 0
IsWellTrip trip = IsBetween 1 86_401 (length trip.legs)

-- a trip that is given is well
abbrev pub IsWellResult : TripResult → Type 0
IsWellResult (results.Trip trip) = IsWellTrip trip
IsWellResult (results.NoTrip target) = Unit {0}

-- the time of the change is within its limits
abbrev pub IsWellNeighbour : Neighbour → Type 0
IsWellNeighbour neighbour = IsChange neighbour.change

-- an exchange point has at most 31 neighbours, and each change time is within its limits
abbrev pub IsWellPoint : Point → Type 0
IsWellPoint point = IsChange point.change × (length point.neighbours ≤ 31) × All IsWellNeighbour point.neighbours

-- 1 to 256 targets are asked, or 1 to 100 events
abbrev pub IsWellAsk : Asks → Type 0
IsWellAsk (asks.Trip ask) = Unit {0}
IsWellAsk (asks.Multi ask) = IsBetween 1 256 (length ask.targets)
IsWellAsk (asks.Events ask) = IsBetween 1 100 ask.number
IsWellAsk (asks.Points ask) = Unit {0}

-- a trip that is given is well
abbrev pub IsWellTripReply : TripReply → Type 0
IsWellTripReply (trips.Trip trip) = IsWellTrip trip
IsWellTripReply (trips.Fault fault) = Unit {0}

-- 1 to 256 results are given, and each is well
abbrev pub IsWellMultiReply : MultiReply → Type 0
IsWellMultiReply (multis.Results results) = IsBetween 1 256 (length results) × All IsWellResult results
IsWellMultiReply (multis.Fault fault) = Unit {0}

-- at most 100 events are given
abbrev pub IsWellEventsReply : EventsReply → Type 0
IsWellEventsReply (events.Events given) = length given ≤ 100
IsWellEventsReply (events.Fault fault) = Unit {0}

-- at most 65,535 exchange points are given, and each is well
abbrev pub IsWellPointsReply : PointsReply → Type 0
IsWellPointsReply (points.Points given) = (length given ≤ 65_535) × All IsWellPoint given
IsWellPointsReply (points.Fault fault) = Unit {0}

-- the reply of the service is well
abbrev pub IsWellDelivery : Deliveries → Type 0
IsWellDelivery (deliveries.Trip reply) = IsWellTripReply reply
IsWellDelivery (deliveries.Multi reply) = IsWellMultiReply reply
IsWellDelivery (deliveries.Events reply) = IsWellEventsReply reply
IsWellDelivery (deliveries.Points reply) = IsWellPointsReply reply

-- each number and each length of a list is within its limits
abbrev pub IsWell : Doc → Type 0
IsWell (Ask ask) = IsWellAsk ask
IsWell (Delivery delivery) = IsWellDelivery delivery
