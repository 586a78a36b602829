-- What the shapes say of a document, and the document's items in order.
use Rattle.std.specs.Prelude.{◌≡◌, ℕ, List, [], ◌∷◌, map, Option, Some, None}
use Rattle.std.proofs.Common.{inl, inr}
use Rattle.ojp_values.specs.declared.asks.TripAsk.{TripAsk}
use Rattle.ojp_values.specs.declared.asks.MultiAsk.{MultiAsk}
use Rattle.ojp_values.specs.declared.asks.EventAsk.{EventAsk}
use Rattle.ojp_values.specs.declared.asks.PointsAsk.{PointsAsk}
use Rattle.ojp_values.specs.declared.asks.Ask.{Ask}
use Rattle.ojp_values.specs.declared.asks.Ask.TheVariants as asks
use Rattle.ojp_values.specs.declared.trips.Leg.{Leg}
use Rattle.ojp_values.specs.declared.trips.Trip.{Trip}
use Rattle.ojp_values.specs.declared.trips.Event.{Event}
use Rattle.ojp_values.specs.declared.trips.Neighbour.{Neighbour}
use Rattle.ojp_values.specs.declared.trips.Point.{Point}
use Rattle.ojp_values.specs.declared.replies.Fault.{Fault}
use Rattle.ojp_values.specs.declared.replies.Fault.TheVariants.{SameStop, StopUnknown, NoTrip, RegionFailed, NotServed}
use Rattle.ojp_values.specs.declared.replies.TripResult.{TripResult}
use Rattle.ojp_values.specs.declared.replies.TripResult.TheVariants as results
use Rattle.ojp_values.specs.declared.replies.TripReply.{TripReply}
use Rattle.ojp_values.specs.declared.replies.TripReply.TheVariants as trip_replies
use Rattle.ojp_values.specs.declared.replies.MultiReply.{MultiReply}
use Rattle.ojp_values.specs.declared.replies.MultiReply.TheVariants as multi_replies
use Rattle.ojp_values.specs.declared.replies.EventsReply.{EventsReply}
use Rattle.ojp_values.specs.declared.replies.EventsReply.TheVariants as events_replies
use Rattle.ojp_values.specs.declared.replies.PointsReply.{PointsReply}
use Rattle.ojp_values.specs.declared.replies.PointsReply.TheVariants as points_replies
use Rattle.ojp_values.specs.declared.replies.Delivery.{Delivery as Reply}
use Rattle.ojp_values.specs.declared.replies.Delivery.TheVariants as replies
use Rattle.ojp_values.specs.declared.documents.Doc.{Doc}
use Rattle.ojp_values.specs.declared.documents.Doc.TheVariants as docs
use Rattle.ojp_grammar.specs.declared.refusals.Want.{Want}
use Rattle.ojp_grammar.specs.declared.refusals.Want.TheVariants.{Request, Delivery, Either}
use Rattle.ojp_grammar.specs.Items.{Item, spell}
use Rattle.ojp_grammar.specs.Syntax.{Says, put, Fits}
use Rattle.ojp_grammar.specs.Grammar.{PLACE, FROM, TO, TRIP_ASK, MULTI_ASK, EVENT_ASK, POINTS_ASK, ASK, SERVICE, HALT, LEG, TRIP, FAULT, TRIP_DELIVERY, MULTI_RESULT, MULTI_DELIVERY, EVENT, EVENT_DELIVERY, NEIGHBOUR, POINT, POINTS_DELIVERY, REPLY, REQUEST, DELIVERY, document}

-- an element says its content
abbrev pub inside : {A : Type 0} → A → Unit {0} × (A × Unit {0})
inside v = (tt, (v, tt))

-- a text, and then what says something
abbrev pub after : {A : Type 0} → A → Unit {0} × A
after v = (tt, v)

-- ---- asks

abbrev pub place_said : List ℕ → Says PLACE
place_said stop = inside (after stop)

abbrev pub from_said : List ℕ → ℕ → Says FROM
from_said stop start = inside (place_said stop, after start)

abbrev pub to_said : List ℕ → Says TO
to_said stop = inside (place_said stop)

abbrev pub trip_ask_said : TripAsk → Says TRIP_ASK
trip_ask_said a = inside (from_said a.origin a.start, to_said a.target)

abbrev pub multi_ask_said : MultiAsk → Says MULTI_ASK
multi_ask_said a = after (from_said a.origin a.start, (map to_said a.targets, tt))

abbrev pub event_ask_said : EventAsk → Says EVENT_ASK
event_ask_said a = inside (inside (place_said a.stop, after a.start), inside (after a.number, after a.kind))

abbrev pub places_said : Option (List ℕ) → List (Says PLACE)
places_said None = []
places_said (Some stop) = place_said stop ∷ []

abbrev pub points_ask_said : PointsAsk → Says POINTS_ASK
points_ask_said a = after (places_said a.place, tt)

abbrev pub ask_said : Ask → Says ASK
ask_said (asks.Trip a) = inl (trip_ask_said a)
ask_said (asks.Multi a) = inr (inl (multi_ask_said a))
ask_said (asks.Events a) = inr (inr (inl (event_ask_said a)))
ask_said (asks.Points a) = inr (inr (inr (points_ask_said a)))

-- ---- deliveries

abbrev pub service_said : ℕ → List ℕ → List ℕ → List ℕ → Says SERVICE
service_said day journey line region = inside (after day, (after journey, (after line, after region)))

abbrev pub halt_said : List ℕ → List ℕ → ℕ → Says HALT
halt_said stop name moment = (after stop, (after name, after moment))

abbrev pub leg_said : Leg → Says LEG
leg_said l =
    inside (inside (
      inside (halt_said l.board l.board_name l.departs),
      (inside (halt_said l.alight l.alight_name l.arrives), service_said l.day l.journey l.line l.region),
    ))

abbrev pub trip_said : Trip → Says TRIP
trip_said t =
    after (after t.duration, (after t.start, (after t.end, (after t.transfers, (map leg_said t.legs, tt)))))

abbrev pub fault_said : Fault → Says FAULT
fault_said (SameStop stop) = inside (inl (after (after stop)))
fault_said (StopUnknown stop) = inside (inr (inl (after (after stop))))
fault_said (NoTrip stop) = inside (inr (inr (inl (after (after stop)))))
fault_said (RegionFailed code) = inside (inr (inr (inr (inl (after (after code))))))
fault_said NotServed = inside (inr (inr (inr (inr tt))))

abbrev pub trip_reply_said : TripReply → Says TRIP_DELIVERY
trip_reply_said (trip_replies.Fault f) = inside (inl (fault_said f))
trip_reply_said (trip_replies.Trip t) = inside (inr (inside (trip_said t)))

abbrev pub result_said : TripResult → Says MULTI_RESULT
result_said (results.Trip t) = inside (inl (trip_said t))
result_said (results.NoTrip stop) = inside (inr (inside (after (after stop))))

abbrev pub multi_reply_said : MultiReply → Says MULTI_DELIVERY
multi_reply_said (multi_replies.Fault f) = after (inl (fault_said f, tt))
multi_reply_said (multi_replies.Results results) = after (inr (map result_said results, tt))

abbrev pub event_said : Event → Says EVENT
event_said e =
    inside (after e.stop, (after e.order, (after e.moment, service_said e.day e.journey e.line e.region)))

abbrev pub events_reply_said : EventsReply → Says EVENT_DELIVERY
events_reply_said (events_replies.Fault f) = after (inl (fault_said f, tt))
events_reply_said (events_replies.Events events) = after (inr (map event_said events, tt))

abbrev pub neighbour_said : Neighbour → Says NEIGHBOUR
neighbour_said n = inside (after n.code, after n.change)

abbrev pub point_said : Point → Says POINT
point_said p =
    after (after p.region, (after p.stop, (after p.change, (map neighbour_said p.neighbours, tt))))

abbrev pub points_reply_said : PointsReply → Says POINTS_DELIVERY
points_reply_said (points_replies.Fault f) = after (inl (fault_said f, tt))
points_reply_said (points_replies.Points points) = after (inr (map point_said points, tt))

abbrev pub reply_said : Reply → Says REPLY
reply_said (replies.Trip r) = inl (trip_reply_said r)
reply_said (replies.Multi r) = inr (inl (multi_reply_said r))
reply_said (replies.Events r) = inr (inr (inl (events_reply_said r)))
reply_said (replies.Points r) = inr (inr (inr (points_reply_said r)))

-- ---- documents

abbrev pub request_said : Ask → Says (document REQUEST)
request_said a = inside (inside (inside (ask_said a)))

abbrev pub delivery_said : Reply → Says (document DELIVERY)
delivery_said r = inside (inside (inside (reply_said r)))

-- the items of a document, in order
unfoldable pub items : Doc → List Item
items (docs.Ask a) = put (document REQUEST) (request_said a) []
items (docs.Delivery r) = put (document DELIVERY) (delivery_said r) []

-- the bytes are the spelling of the document
abbrev pub Spells : Doc → List ℕ → Type 0
Spells doc bytes = bytes ≡ spell (items doc)

-- each field and the length of each list is within its limits
unfoldable pub IsWell : Doc → Type 0
IsWell (docs.Ask a) = Fits (document REQUEST) (request_said a)
IsWell (docs.Delivery r) = Fits (document DELIVERY) (delivery_said r)

-- the document is of the side that is meant
abbrev pub IsOfSide : Want → Doc → Type 0
IsOfSide Request (docs.Ask a) = Unit {0}
IsOfSide Request (docs.Delivery r) = ⊥
IsOfSide Delivery (docs.Ask a) = ⊥
IsOfSide Delivery (docs.Delivery r) = Unit {0}
IsOfSide Either doc = Unit {0}

-- a document that is meant
abbrev pub IsWanted : Want → Doc → Type 0
IsWanted want doc = IsOfSide want doc × IsWell doc
