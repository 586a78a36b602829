-- What the gateway answers, by the timetables of its regions.
use Rattle.std.specs.Prelude.{◌≡◌, ◌≢◌, ◌↔◌, ℕ, ◌≤◌, true, Bool, ◌&&◌, ◌||◌, ◌⊎◌, List, [], ◌∷◌, filter, Option, Some, None}
use Rattle.ojp_values.specs.Lists.{Among, Earliest, IsRising}
use Rattle.ojp_values.specs.Texts.{Text, same, text_lt, home}
use Rattle.ojp_values.specs.declared.asks.TripAsk.{TripAsk}
use Rattle.ojp_values.specs.declared.asks.Ask.{Ask}
use Rattle.ojp_values.specs.declared.asks.Ask.TheVariants as asks
use Rattle.ojp_values.specs.declared.trips.Leg.{Leg}
use Rattle.ojp_values.specs.declared.trips.Trip.{Trip}
use Rattle.ojp_values.specs.declared.trips.Point.{Point}
use Rattle.ojp_values.specs.declared.replies.Fault.TheVariants as faults
use Rattle.ojp_values.specs.declared.replies.TripReply.{TripReply}
use Rattle.ojp_values.specs.declared.replies.TripReply.TheVariants as trip_replies
use Rattle.ojp_values.specs.declared.replies.MultiReply.TheVariants as multi_replies
use Rattle.ojp_values.specs.declared.replies.EventsReply.TheVariants as events_replies
use Rattle.ojp_values.specs.declared.replies.PointsReply.TheVariants as points_replies
use Rattle.ojp_values.specs.declared.replies.Delivery.{Delivery}
use Rattle.ojp_values.specs.declared.replies.Delivery.TheVariants as deliveries
use Rattle.ojp_timetable.specs.Tables.{Timetable, has}
use Rattle.ojp_timetable.specs.Journeys.{United, Arrives}
use Rattle.ojp_timetable.specs.Answers.{Agrees}

-- ---- exchange points

-- exchange points of several regions are ordered by stop and region
abbrev pub entry_lt : Point → Point → Bool
entry_lt x y = text_lt x.stop y.stop || (same x.stop y.stop && text_lt x.region y.region)

-- some timetable declares the exchange point
abbrev pub IsDeclaredBy : List Timetable → Point → Type 0
IsDeclaredBy tables point = (table : Timetable) × Among table tables × Among point table.points

-- all exchange points that the timetables declare, in their order
pub record AreAllPoints (tables : List Timetable) (all : List Point) : Type 0 where
  pub just_these : (point : Point) → Among point all ↔ IsDeclaredBy tables point
  pub rising : IsRising entry_lt all

-- the entries of a place, or that it is unknown where there is none
abbrev pub entries_reply : Text → List Point → Delivery
entries_reply place [] = deliveries.Points (points_replies.Fault (faults.StopUnknown place))
entries_reply place (point ∷ points) = deliveries.Points (points_replies.Points (point ∷ points))

-- the entries of a place, or all
abbrev pub entries_answer : Option Text → List Point → Delivery
entries_answer None all = deliveries.Points (points_replies.Points all)
entries_answer (Some place) all = entries_reply place (filter (λ (point : Point). same place point.stop) all)

-- what is answered to an ask for exchange points
abbrev pub PointsByTables : List Timetable → Option Text → Delivery → Type 0
PointsByTables tables place delivery = (all : List Point) × AreAllPoints tables all × (delivery ≡ entries_answer place all)

-- ---- trips

-- some timetable has the place
abbrev pub IsPlaceBy : List Timetable → Text → Option Text → Type 0
IsPlaceBy tables stop None = (table : Timetable) × Among table tables × ((point : Point) × Among point table.points × (point.stop ≡ stop))
IsPlaceBy tables stop (Some code) = (table : Timetable) × Among table tables × (table.region ≡ code) × (has table stop ≡ true)

-- an exchange point is a place where some timetable declares it, another stop where the timetable of its region has it
abbrev pub IsPlace : List Timetable → Text → Type 0
IsPlace tables stop = IsPlaceBy tables stop (home stop)

-- no united journey leads from the origin to the target
abbrev pub HasNoJourney : List Timetable → TripAsk → Type 0
HasNoJourney tables ask = (a : ℕ) → Arrives tables ask.origin ask.start ask.target a → ⊥

-- the arrival is the earliest of all united journeys
abbrev pub IsEarliest : List Timetable → TripAsk → ℕ → Type 0
IsEarliest tables ask arrival = Earliest (Arrives tables ask.origin ask.start ask.target) arrival

-- the totals of the trip are those of its legs
pub record HasTotals (trip : Trip) : Type 0 where
  pub first : Leg
  pub rest : List Leg
  pub totals : Agrees trip first rest

-- the trip is a united journey, none arrives earlier, and its totals are those of its legs
pub record TripIsRight (tables : List Timetable) (ask : TripAsk) (trip : Trip) : Type 0 where
  pub journey : United tables ask.origin ask.start ask.target trip.end trip.legs
  pub earliest : (a : ℕ) → Arrives tables ask.origin ask.start ask.target a → trip.end ≤ a
  pub totals : HasTotals trip

-- both ends of the ask are known, and they differ
pub record EndsAreKnown (tables : List Timetable) (ask : TripAsk) : Type 0 where
  pub differ : ask.origin ≢ ask.target
  pub origin : IsPlace tables ask.origin
  pub target : IsPlace tables ask.target

-- the first end of the ask that is unknown is this stop
abbrev pub IsFirstUnknown : List Timetable → TripAsk → Text → Type 0
IsFirstUnknown tables ask stop =
    (ask.origin ≢ ask.target) × (IsPlace tables stop → ⊥) × ((stop ≡ ask.origin) ⊎ ((stop ≡ ask.target) × IsPlace tables ask.origin))

-- what is answered to an ask for a trip
abbrev pub TripByTables : List Timetable → TripAsk → TripReply → Type 0
TripByTables tables ask (trip_replies.Trip trip) = EndsAreKnown tables ask × TripIsRight tables ask trip
TripByTables tables ask (trip_replies.Fault (faults.SameStop stop)) = (stop ≡ ask.origin) × (ask.origin ≡ ask.target)
TripByTables tables ask (trip_replies.Fault (faults.StopUnknown stop)) = IsFirstUnknown tables ask stop
TripByTables tables ask (trip_replies.Fault (faults.NoTrip stop)) = (stop ≡ ask.target) × EndsAreKnown tables ask × HasNoJourney tables ask
TripByTables tables ask (trip_replies.Fault (faults.RegionFailed region)) = ⊥
TripByTables tables ask (trip_replies.Fault faults.NotServed) = ⊥

-- ---- all services

-- what the gateway answers to an ask, by the timetables of its regions
abbrev pub GatewayAnswers : List Timetable → Ask → Delivery → Type 0
GatewayAnswers tables (asks.Trip ask) delivery = (reply : TripReply) × (delivery ≡ deliveries.Trip reply) × TripByTables tables ask reply
GatewayAnswers tables (asks.Multi ask) delivery = delivery ≡ deliveries.Multi (multi_replies.Fault faults.NotServed)
GatewayAnswers tables (asks.Events ask) delivery = delivery ≡ deliveries.Events (events_replies.Fault faults.NotServed)
GatewayAnswers tables (asks.Points ask) delivery = PointsByTables tables ask.place delivery
