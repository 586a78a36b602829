-- What a whole ask to the gateway gives: a delivery and the record of its search.
use Rattle.std.specs.Prelude.{◌≡◌, ◌≢◌, ◌⊎◌, List, [], Option, Some, None}
use Rattle.ojp_values.specs.Lists.{Each}
use Rattle.ojp_values.specs.Texts.{Text, home}
use Rattle.ojp_values.specs.declared.asks.TripAsk.{TripAsk}
use Rattle.ojp_values.specs.declared.asks.Ask.{Ask}
use Rattle.ojp_values.specs.declared.asks.Ask.TheVariants as asks
use Rattle.ojp_values.specs.declared.replies.Fault.TheVariants as faults
use Rattle.ojp_values.specs.declared.replies.TripReply.{TripReply}
use Rattle.ojp_values.specs.declared.replies.TripReply.TheVariants as trip_replies
use Rattle.ojp_values.specs.declared.replies.MultiReply.TheVariants as multi_replies
use Rattle.ojp_values.specs.declared.replies.EventsReply.TheVariants as events_replies
use Rattle.ojp_values.specs.declared.replies.PointsReply.TheVariants as points_replies
use Rattle.ojp_values.specs.declared.trips.Point.{Point}
use Rattle.ojp_values.specs.declared.replies.Delivery.{Delivery}
use Rattle.ojp_values.specs.declared.replies.Delivery.TheVariants as deliveries
use Rattle.ojp_timetable.specs.Tables.{Timetable}
use Rattle.ojp_timetable.specs.GatewayAnswers.{GatewayAnswers, IsPlace, entries_reply}
use Rattle.ojp_exchange.specs.Book.{Book}
use Rattle.ojp_exchange.specs.Kept.{ArePointsAt}
use Rattle.ojp_links.specs.Replies.{IsOfKind}
use Rattle.ojp_links.specs.Seen.{View, TellsTables}
use Rattle.ojp_records.specs.declared.queries.Entry.{Entry}
use Rattle.ojp_records.specs.Headline.{AreTablesOf, AreGiven}
use Rattle.ojp_join.specs.Outcomes.{Ended}
use Rattle.ojp_turns.specs.Faults.{FaultRose, HasCause, NoRejectionRose}

-- these timetables are told, and the book is theirs
abbrev pub TellsBook : View → Book → List Timetable → Type 0
TellsBook v book tables = TellsTables v tables × AreTablesOf tables book

-- where timetables are told and the book is theirs, no count of rejections rose
abbrev pub NoneRejected : Book → View → View → Type 0
NoneRejected book old new = (tables : List Timetable) → TellsBook old book tables → NoRejectionRose old new

-- the delivery names a region, whose count of faults rose
abbrev pub IsRegionFailed : View → View → Delivery → Type 0
IsRegionFailed old new delivery =
    (code : Text) × (delivery ≡ deliveries.Trip (trip_replies.Fault (faults.RegionFailed code))) × FaultRose old new code

-- the delivery says that the target is unknown, no region knows it, and the count of faults of the origin's region rose
abbrev pub IsTargetUnknown : View → View → List Timetable → TripAsk → Delivery → Type 0
IsTargetUnknown old new tables ask delivery =
    (delivery ≡ deliveries.Trip (trip_replies.Fault (faults.StopUnknown ask.target))) × (IsPlace tables ask.target → ⊥)
    × ((code : Text) × (home ask.origin ≡ Some code) × FaultRose old new code)

-- the delivery is the gateway's answer by the timetables, but that a search may end otherwise where a region failed
abbrev pub IsRight : View → View → List Timetable → Ask → Delivery → Type 0
IsRight old new tables (asks.Trip ask) delivery =
    GatewayAnswers tables (asks.Trip ask) delivery ⊎ (IsRegionFailed old new delivery ⊎ IsTargetUnknown old new tables ask delivery)
IsRight old new tables (asks.Multi ask) delivery = GatewayAnswers tables (asks.Multi ask) delivery
IsRight old new tables (asks.Events ask) delivery = GatewayAnswers tables (asks.Events ask) delivery
IsRight old new tables (asks.Points ask) delivery = GatewayAnswers tables (asks.Points ask) delivery

-- the same, where timetables are told and the book is theirs
abbrev pub IsRightWhereTold : Book → View → View → Ask → Delivery → Type 0
IsRightWhereTold book old new ask delivery = (tables : List Timetable) → TellsBook old book tables → IsRight old new tables ask delivery

-- the delivery names no region but one whose count of faults rose
abbrev pub NamesFailed : View → View → Delivery → Type 0
NamesFailed old new delivery = (code : Text) → delivery ≡ deliveries.Trip (trip_replies.Fault (faults.RegionFailed code)) → FaultRose old new code

-- the delivery that lists the points found at the place
abbrev pub delivery_of_points : Option Text → List Point → Delivery
delivery_of_points None found = deliveries.Points (points_replies.Points found)
delivery_of_points (Some place) found = entries_reply place found

-- the delivery lists the book's points, all or those at the place
abbrev pub PointsByBook : Book → Option Text → Delivery → Type 0
PointsByBook book place delivery = (found : List Point) × ArePointsAt book place found × (delivery ≡ delivery_of_points place found)

-- what the book alone answers: that both ends of a trip are the same stop, and the points
abbrev pub IsByBook : Book → Ask → Delivery → Type 0
IsByBook book (asks.Trip ask) delivery = ask.origin ≡ ask.target → delivery ≡ deliveries.Trip (trip_replies.Fault (faults.SameStop ask.origin))
IsByBook book (asks.Multi ask) delivery = Unit {0}
IsByBook book (asks.Events ask) delivery = Unit {0}
IsByBook book (asks.Points ask) delivery = PointsByBook book ask.place delivery

-- services that the gateway does not have
abbrev pub IsNotServed : Ask → Delivery → Type 0
IsNotServed (asks.Trip ask) delivery = Unit {0}
IsNotServed (asks.Multi ask) delivery = delivery ≡ deliveries.Multi (multi_replies.Fault faults.NotServed)
IsNotServed (asks.Events ask) delivery = delivery ≡ deliveries.Events (events_replies.Fault faults.NotServed)
IsNotServed (asks.Points ask) delivery = Unit {0}

-- a trip ask between two different stops is answered as its search ended; any other has no record
abbrev pub EndsSearch : Book → Ask → Delivery → List Entry → Type 0
EndsSearch book (asks.Trip ask) delivery told =
    (ask.origin ≢ ask.target → (reply : TripReply) × (delivery ≡ deliveries.Trip reply) × Ended book ask told reply) × (ask.origin ≡ ask.target → told ≡ [])
EndsSearch book (asks.Multi ask) delivery told = told ≡ []
EndsSearch book (asks.Events ask) delivery told = told ≡ []
EndsSearch book (asks.Points ask) delivery told = told ≡ []

-- where timetables are told, each reply of the record is that of its region's timetable
abbrev pub ToldGiven : Book → View → Ask → List Entry → Type 0
ToldGiven book old (asks.Trip ask) told = (tables : List Timetable) → TellsTables old tables → AreGiven tables book ask told
ToldGiven book old (asks.Multi ask) told = Unit {0}
ToldGiven book old (asks.Events ask) told = Unit {0}
ToldGiven book old (asks.Points ask) told = Unit {0}

-- what an ask to the gateway gives: the relation of asks to deliveries by which it serves
pub record Answers (book : Book) (old new : View) (told : List Entry) (ask : Ask) (delivery : Delivery) : Type 0 where
  pub kind : IsOfKind ask delivery
  pub right : IsRightWhereTold book old new ask delivery
  pub names_failed : NamesFailed old new delivery
  pub not_served : IsNotServed ask delivery
  pub by_book : IsByBook book ask delivery
  pub ends : EndsSearch book ask delivery told
  pub causes : Each (HasCause old new) told
  pub given : ToldGiven book old ask told
