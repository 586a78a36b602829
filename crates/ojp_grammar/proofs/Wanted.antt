-- The wanted documents are what their shapes accept.
use Rattle.std.proofs.Common.{◌≡◌, refl, ℕ, ◌≤◌, List, [], ◌∷◌, ◌+◌, length, Option, Some, None, ◌⊎◌, inl, inr, sym, ◌∙◌, ap, subst, arith}
use Rattle.std.specs.Prelude.{map}
use Rattle.ojp_tables.specs.declared.names.TheConstants.{HEAD, END, OJP_MULTI_POINT_TRIP_DELIVERY, OJP_STOP_EVENT_DELIVERY, OJP_EXCHANGE_POINTS_DELIVERY}
use Rattle.ojp_values.specs.declared.asks.TripAsk.{TripAsk}
use Rattle.ojp_values.specs.declared.asks.MultiAsk.{MultiAsk}
use Rattle.ojp_values.specs.declared.asks.EventAsk.{EventAsk}
use Rattle.ojp_values.specs.declared.asks.PointsAsk.{PointsAsk}
use Rattle.ojp_values.specs.declared.asks.Ask.{Ask}
use Rattle.ojp_values.specs.declared.asks.Ask.TheVariants as asks
use Rattle.ojp_values.specs.declared.trips.Leg.{Leg}
use Rattle.ojp_values.specs.declared.trips.Trip.{Trip}
use Rattle.ojp_values.specs.declared.trips.Event.{Event}
use Rattle.ojp_values.specs.declared.trips.Neighbour.{Neighbour}
use Rattle.ojp_values.specs.declared.trips.Point.{Point}
use Rattle.ojp_values.specs.declared.replies.Fault.{Fault}
use Rattle.ojp_values.specs.declared.replies.Fault.TheVariants.{SameStop, StopUnknown, NoTrip, RegionFailed, NotServed}
use Rattle.ojp_values.specs.declared.replies.TripResult.{TripResult}
use Rattle.ojp_values.specs.declared.replies.TripResult.TheVariants as results
use Rattle.ojp_values.specs.declared.replies.TripReply.{TripReply}
use Rattle.ojp_values.specs.declared.replies.TripReply.TheVariants as trip_replies
use Rattle.ojp_values.specs.declared.replies.MultiReply.{MultiReply}
use Rattle.ojp_values.specs.declared.replies.MultiReply.TheVariants as multi_replies
use Rattle.ojp_values.specs.declared.replies.EventsReply.{EventsReply}
use Rattle.ojp_values.specs.declared.replies.EventsReply.TheVariants as events_replies
use Rattle.ojp_values.specs.declared.replies.PointsReply.{PointsReply}
use Rattle.ojp_values.specs.declared.replies.PointsReply.TheVariants as points_replies
use Rattle.ojp_values.specs.declared.replies.Delivery.{Delivery as Reply}
use Rattle.ojp_values.specs.declared.replies.Delivery.TheVariants as replies
use Rattle.ojp_values.specs.declared.documents.Doc.{Doc}
use Rattle.ojp_values.specs.declared.documents.Doc.TheVariants as docs
use Rattle.ojp_grammar.specs.declared.refusals.Want.{Want}
use Rattle.ojp_grammar.specs.declared.refusals.Want.TheVariants.{Request, Delivery, Either}
use Rattle.ojp_grammar.specs.Items.{Item, tag, value}
use Rattle.ojp_grammar.specs.Syntax.{Syntax, text, either, Says, put, Fits}
use Rattle.ojp_grammar.specs.Grammar.{PLACE, TO, TRIP_ASK, MULTI_ASK, EVENT_ASK, POINTS_ASK, ASK, LEG, TRIP, FAULT_CODE, FAULT, TRIP_OUTCOME, RESULT_OUTCOME, fault_or_list, MULTI_RESULT, EVENT, NEIGHBOUR, POINT, REPLY, REQUEST, DELIVERY, document, content, wanted}
use Rattle.ojp_grammar.specs.Reached.{start_of}
use Rattle.ojp_grammar.specs.Fields.{kind_of}
use Rattle.ojp_grammar.specs.Documents.{to_said, places_said, ask_said, leg_said, trip_said, fault_said, trip_reply_said, result_said, multi_reply_said, event_said, events_reply_said, neighbour_said, point_said, points_reply_said, reply_said, request_said, delivery_said, items, IsOfSide, IsWell, IsWanted}
use Rattle.ojp_grammar.specs.Steps.{Accepts, IsPlain}
use Rattle.ojp_grammar.proofs.Words.{both_accepts, accepts_both, put_accepts, accepts_put}
use Rattle.ojp_grammar.proofs.Tested.{plain_of}
use Rattle.ojp_grammar.proofs.Refusal.{WantedAs, Means}

map_back : {A B : Type 0} (f : A → B) (g : B → A) → ((v : B) → f (g v) ≡ v) → (vs : List B) → map f (map g vs) ≡ vs
map_back f g back [] = refl
map_back f g back (v ∷ vs) = ap (λ x. x ∷ map f (map g vs)) (back v) ∙ ap (λ xs. v ∷ xs) (map_back f g back vs)

-- ---- the values that shapes say

abbrev place_of : Says PLACE → List ℕ
place_of v = v.1.0.1

abbrev to_of : Says TO → List ℕ
to_of v = place_of v.1.0

abbrev trip_ask_of : Says TRIP_ASK → TripAsk
trip_ask_of v = record { origin = place_of v.1.0.0.1.0.0; start = v.1.0.0.1.0.1.1; target = to_of v.1.0.1 }

abbrev multi_ask_of : Says MULTI_ASK → MultiAsk
multi_ask_of v = record { origin = place_of v.1.0.1.0.0; start = v.1.0.1.0.1.1; targets = map to_of v.1.1.0 }

abbrev event_ask_of : Says EVENT_ASK → EventAsk
event_ask_of v = record {
  stop = place_of v.1.0.0.1.0.0;
  start = v.1.0.0.1.0.1.1;
  kind = v.1.0.1.1.0.1.1;
  number = v.1.0.1.1.0.0.1;
}

abbrev places_of : List (Says PLACE) → Option (List ℕ)
places_of [] = None
places_of (v ∷ vs) = Some (place_of v)

abbrev points_ask_of : Says POINTS_ASK → PointsAsk
points_ask_of v = record { place = places_of v.1.0 }

abbrev ask_of : Says ASK → Ask
ask_of (inl v) = asks.Trip (trip_ask_of v)
ask_of (inr (inl v)) = asks.Multi (multi_ask_of v)
ask_of (inr (inr (inl v))) = asks.Events (event_ask_of v)
ask_of (inr (inr (inr v))) = asks.Points (points_ask_of v)

places_back : (vs : List (Says PLACE)) → length vs ≤ 1 → places_said (places_of vs) ≡ vs
places_back [] h = refl
places_back (v ∷ []) h = refl
places_back (v ∷ w ∷ vs) h = absurd (omega arith)

ask_back : (v : Says ASK) → Fits ASK v → ask_said (ask_of v) ≡ v
ask_back (inl v) f = refl
ask_back (inr (inl v)) f = ap (λ targets. inr (inl (v.0, (v.1.0, (targets, tt))))) (map_back to_said to_of (λ x. refl) v.1.1.0)
ask_back (inr (inr (inl v))) f = refl
ask_back (inr (inr (inr v))) f = ap (λ places. inr (inr (inr (v.0, (places, tt))))) (places_back v.1.0 f.1.1)

abbrev leg_of : Says LEG → Leg
leg_of v = let w = v.1.0.1.0 in record {
  region = w.1.1.1.0.1.1.1.1;
  journey = w.1.1.1.0.1.0.1;
  line = w.1.1.1.0.1.1.0.1;
  day = w.1.1.1.0.0.1;
  board = w.0.1.0.0.1;
  board_name = w.0.1.0.1.0.1;
  departs = w.0.1.0.1.1.1;
  alight = w.1.0.1.0.0.1;
  alight_name = w.1.0.1.0.1.0.1;
  arrives = w.1.0.1.0.1.1.1;
}

abbrev trip_of : Says TRIP → Trip
trip_of v = record {
  duration = v.1.0.1;
  start = v.1.1.0.1;
  end = v.1.1.1.0.1;
  transfers = v.1.1.1.1.0.1;
  legs = map leg_of v.1.1.1.1.1.0;
}

trip_back : (v : Says TRIP) → trip_said (trip_of v) ≡ v
trip_back v = ap (λ legs. (tt, (v.1.0, (v.1.1.0, (v.1.1.1.0, (v.1.1.1.1.0, (legs, tt))))))) (map_back leg_said leg_of (λ x. refl) v.1.1.1.1.1.0)

abbrev fault_in : Says FAULT_CODE → Fault
fault_in (inl w) = SameStop w.1.1
fault_in (inr (inl w)) = StopUnknown w.1.1
fault_in (inr (inr (inl w))) = NoTrip w.1.1
fault_in (inr (inr (inr (inl w)))) = RegionFailed w.1.1
fault_in (inr (inr (inr (inr w)))) = NotServed

abbrev fault_of : Says FAULT → Fault
fault_of v = fault_in v.1.0

fault_back : (v : Says FAULT_CODE) → fault_said (fault_in v) ≡ (tt, (v, tt))
fault_back (inl w) = refl
fault_back (inr (inl w)) = refl
fault_back (inr (inr (inl w))) = refl
fault_back (inr (inr (inr (inl w)))) = refl
fault_back (inr (inr (inr (inr w)))) = refl

abbrev trip_outcome_of : Says TRIP_OUTCOME → TripReply
trip_outcome_of (inl v) = trip_replies.Fault (fault_of v)
trip_outcome_of (inr v) = trip_replies.Trip (trip_of v.1.0)

trip_outcome_back : (v : Says TRIP_OUTCOME) → trip_reply_said (trip_outcome_of v) ≡ (tt, (v, tt))
trip_outcome_back (inl v) = ap (λ f. (tt, (inl f, tt))) (fault_back v.1.0)
trip_outcome_back (inr v) = ap (λ t. (tt, (inr (tt, (t, tt)), tt))) (trip_back v.1.0)

abbrev result_in : Says RESULT_OUTCOME → TripResult
result_in (inl v) = results.Trip (trip_of v)
result_in (inr v) = results.NoTrip v.1.0.1.1

abbrev result_of : Says MULTI_RESULT → TripResult
result_of v = result_in v.1.0

result_in_back : (v : Says RESULT_OUTCOME) → result_said (result_in v) ≡ (tt, (v, tt))
result_in_back (inl v) = ap (λ t. (tt, (inl t, tt))) (trip_back v)
result_in_back (inr v) = refl

abbrev multi_in : Says (fault_or_list 1 256 MULTI_RESULT (OJP_MULTI_POINT_TRIP_DELIVERY + 1)) → MultiReply
multi_in (inl v) = multi_replies.Fault (fault_of v.0)
multi_in (inr v) = multi_replies.Results (map result_of v.0)

multi_back : (v : Says (fault_or_list 1 256 MULTI_RESULT (OJP_MULTI_POINT_TRIP_DELIVERY + 1))) → multi_reply_said (multi_in v) ≡ (tt, v)
multi_back (inl v) = ap (λ f. (tt, inl (f, tt))) (fault_back v.0.1.0)
multi_back (inr v) = ap (λ r. (tt, inr (r, tt))) (map_back result_said result_of (λ x. result_in_back x.1.0) v.0)

abbrev event_of : Says EVENT → Event
event_of v = let w = v.1.0 in record {
  region = w.1.1.1.1.0.1.1.1.1;
  journey = w.1.1.1.1.0.1.0.1;
  line = w.1.1.1.1.0.1.1.0.1;
  day = w.1.1.1.1.0.0.1;
  stop = w.0.1;
  order = w.1.0.1;
  moment = w.1.1.0.1;
}

abbrev events_in : Says (fault_or_list 0 100 EVENT (OJP_STOP_EVENT_DELIVERY + 1)) → EventsReply
events_in (inl v) = events_replies.Fault (fault_of v.0)
events_in (inr v) = events_replies.Events (map event_of v.0)

events_back : (v : Says (fault_or_list 0 100 EVENT (OJP_STOP_EVENT_DELIVERY + 1))) → events_reply_said (events_in v) ≡ (tt, v)
events_back (inl v) = ap (λ f. (tt, inl (f, tt))) (fault_back v.0.1.0)
events_back (inr v) = ap (λ r. (tt, inr (r, tt))) (map_back event_said event_of (λ x. refl) v.0)

abbrev neighbour_of : Says NEIGHBOUR → Neighbour
neighbour_of v = record { code = v.1.0.0.1; change = v.1.0.1.1 }

abbrev point_of : Says POINT → Point
point_of v = record {
  region = v.1.0.1;
  stop = v.1.1.0.1;
  change = v.1.1.1.0.1;
  neighbours = map neighbour_of v.1.1.1.1.0;
}

point_back : (v : Says POINT) → point_said (point_of v) ≡ v
point_back v = ap (λ n. (tt, (v.1.0, (v.1.1.0, (v.1.1.1.0, (n, tt)))))) (map_back neighbour_said neighbour_of (λ x. refl) v.1.1.1.1.0)

abbrev points_in : Says (fault_or_list 0 65_535 POINT (OJP_EXCHANGE_POINTS_DELIVERY + 1)) → PointsReply
points_in (inl v) = points_replies.Fault (fault_of v.0)
points_in (inr v) = points_replies.Points (map point_of v.0)

points_back : (v : Says (fault_or_list 0 65_535 POINT (OJP_EXCHANGE_POINTS_DELIVERY + 1))) → points_reply_said (points_in v) ≡ (tt, v)
points_back (inl v) = ap (λ f. (tt, inl (f, tt))) (fault_back v.0.1.0)
points_back (inr v) = ap (λ r. (tt, inr (r, tt))) (map_back point_said point_of point_back v.0)

abbrev reply_of : Says REPLY → Reply
reply_of (inl v) = replies.Trip (trip_outcome_of v.1.0)
reply_of (inr (inl v)) = replies.Multi (multi_in v.1)
reply_of (inr (inr (inl v))) = replies.Events (events_in v.1)
reply_of (inr (inr (inr v))) = replies.Points (points_in v.1)

reply_back : (v : Says REPLY) → reply_said (reply_of v) ≡ v
reply_back (inl v) = ap inl (trip_outcome_back v.1.0)
reply_back (inr (inl v)) = ap (λ x. inr (inl x)) (multi_back v.1)
reply_back (inr (inr (inl v))) = ap (λ x. inr (inr (inl x))) (events_back v.1)
reply_back (inr (inr (inr v))) = ap (λ x. inr (inr (inr x))) (points_back v.1)

-- ---- values are known by what they say

places_kept : (place : Option (List ℕ)) → places_of (places_said place) ≡ place
places_kept None = refl
places_kept (Some stop) = refl

ask_kept : (a : Ask) → ask_of (ask_said a) ≡ a
ask_kept (asks.Trip a) = refl
ask_kept (asks.Multi a) =
    ap (λ targets. asks.Multi (record a { targets = targets })) (map_back to_of to_said (λ x. refl) a.targets)
ask_kept (asks.Events a) = refl
ask_kept (asks.Points a) = ap (λ place. asks.Points (record { place = place })) (places_kept a.place)

pub ask_again : (a b : Ask) → ask_said a ≡ ask_said b → a ≡ b
ask_again a b e = sym (ask_kept a) ∙ (ap ask_of e ∙ ask_kept b)

fault_kept : (f : Fault) → fault_of (fault_said f) ≡ f
fault_kept (SameStop stop) = refl
fault_kept (StopUnknown stop) = refl
fault_kept (NoTrip stop) = refl
fault_kept (RegionFailed code) = refl
fault_kept NotServed = refl

trip_kept : (t : Trip) → trip_of (trip_said t) ≡ t
trip_kept t = ap (λ legs. record t { legs = legs }) (map_back leg_of leg_said (λ x. refl) t.legs)

result_kept : (r : TripResult) → result_of (result_said r) ≡ r
result_kept (results.Trip t) = ap results.Trip (trip_kept t)
result_kept (results.NoTrip stop) = refl

point_kept : (p : Point) → point_of (point_said p) ≡ p
point_kept p =
    ap (λ neighbours. record p { neighbours = neighbours }) (map_back neighbour_of neighbour_said (λ x. refl) p.neighbours)

reply_kept : (r : Reply) → reply_of (reply_said r) ≡ r
reply_kept (replies.Trip (trip_replies.Fault f)) = ap (λ x. replies.Trip (trip_replies.Fault x)) (fault_kept f)
reply_kept (replies.Trip (trip_replies.Trip t)) = ap (λ x. replies.Trip (trip_replies.Trip x)) (trip_kept t)
reply_kept (replies.Multi (multi_replies.Fault f)) = ap (λ x. replies.Multi (multi_replies.Fault x)) (fault_kept f)
reply_kept (replies.Multi (multi_replies.Results rs)) =
    ap (λ x. replies.Multi (multi_replies.Results x)) (map_back result_of result_said result_kept rs)
reply_kept (replies.Events (events_replies.Fault f)) = ap (λ x. replies.Events (events_replies.Fault x)) (fault_kept f)
reply_kept (replies.Events (events_replies.Events es)) =
    ap (λ x. replies.Events (events_replies.Events x)) (map_back event_of event_said (λ x. refl) es)
reply_kept (replies.Points (points_replies.Fault f)) = ap (λ x. replies.Points (points_replies.Fault x)) (fault_kept f)
reply_kept (replies.Points (points_replies.Points ps)) =
    ap (λ x. replies.Points (points_replies.Points x)) (map_back point_of point_said point_kept ps)

pub reply_again : (a b : Reply) → reply_said a ≡ reply_said b → a ≡ b
reply_again a b e = sym (reply_kept a) ∙ (ap reply_of e ∙ reply_kept b)

-- ---- documents

request_plain : IsPlain (document REQUEST)
request_plain = plain_of (document REQUEST) refl

delivery_plain : IsPlain (document DELIVERY)
delivery_plain = plain_of (document DELIVERY) refl

either_plain : IsPlain (document (either REQUEST DELIVERY))
either_plain = plain_of (document (either REQUEST DELIVERY)) refl

nothing_behind : (rest : List Item) → Accepts rest [] → rest ≡ []
nothing_behind [] h = refl
nothing_behind (i ∷ rest) h = absurd h

-- what the request shape says is a request
request_as : (want : Want) → ((a : Ask) → IsOfSide want (docs.Ask a)) → (v : Says (document REQUEST)) → Fits (document REQUEST) v → WantedAs want (put (document REQUEST) v [])
unfolding items IsWell
request_as want side v f =
    let ask : Says ASK = v.1.0.1.0.1.0 in
    let e : request_said (ask_of ask) ≡ v = ap (λ x. (tt, ((tt, ((tt, (x, tt)), tt)), tt))) (ask_back ask f.1.0.1.0.1.0) in
    record {
      doc = docs.Ask (ask_of ask);
      wanted = (side (ask_of ask), subst (Fits (document REQUEST)) (sym e) f);
      parts = ap (λ x. put (document REQUEST) x []) e;
    }

delivery_as : (want : Want) → ((r : Reply) → IsOfSide want (docs.Delivery r)) → (v : Says (document DELIVERY)) → Fits (document DELIVERY) v → WantedAs want (put (document DELIVERY) v [])
unfolding items IsWell
delivery_as want side v f =
    let reply : Says REPLY = v.1.0.1.0.1.0 in
    let e : delivery_said (reply_of reply) ≡ v = ap (λ x. (tt, ((tt, ((tt, (x, tt)), tt)), tt))) (reply_back reply) in
    record {
      doc = docs.Delivery (reply_of reply);
      wanted = (side (reply_of reply), subst (Fits (document DELIVERY)) (sym e) f);
      parts = ap (λ x. put (document DELIVERY) x []) e;
    }

either_as : (v : Says (document (either REQUEST DELIVERY))) → Fits (document (either REQUEST DELIVERY)) v → WantedAs Either (put (document (either REQUEST DELIVERY)) v [])
either_as v f = go v.1.0 f.1.0
  where
    go : (v : Says REQUEST ⊎ Says DELIVERY) → Fits (either REQUEST DELIVERY) v → WantedAs Either (put (document (either REQUEST DELIVERY)) (tt, (v, tt)) [])
    go (inl r) f = request_as Either (λ a. tt) (tt, (r, tt)) (tt, (f, tt))
    go (inr d) f = delivery_as Either (λ r. tt) (tt, (d, tt)) (tt, (f, tt))

said_as : (want : Want) → (v : Says (wanted want)) → Fits (wanted want) v → WantedAs want (put (wanted want) v [])
said_as Request = request_as Request (λ a. tt)
said_as Delivery = delivery_as Delivery (λ r. tt)
said_as Either = either_as

pub wanted_plain : (want : Want) → IsPlain (wanted want)
wanted_plain Request = request_plain
wanted_plain Delivery = delivery_plain
wanted_plain Either = either_plain

wanted_accepts : (want : Want) (doc : Doc) → IsWanted want doc → Accepts (items doc) (wanted want ∷ [])
unfolding items IsWell
wanted_accepts Request (docs.Ask a) h = put_accepts (wanted Request) request_plain (request_said a) [] [] h.1 tt
wanted_accepts Request (docs.Delivery r) h = absurd h.0
wanted_accepts Delivery (docs.Ask a) h = absurd h.0
wanted_accepts Delivery (docs.Delivery r) h = put_accepts (wanted Delivery) delivery_plain (delivery_said r) [] [] h.1 tt
wanted_accepts Either (docs.Ask a) h =
    put_accepts (wanted Either) either_plain (tt, (inl (request_said a).1.0, tt)) [] [] h.1 tt
wanted_accepts Either (docs.Delivery r) h =
    put_accepts (wanted Either) either_plain (tt, (inr (delivery_said r).1.0, tt)) [] [] h.1 tt

-- a document with its parts open
opened : (s : Syntax) (w : List Item) → Accepts w (document s ∷ []) → Accepts w (text HEAD ∷ s ∷ text END ∷ [])
opened s [] h = h
opened s (tag n ∷ w) h = (h.0, accepts_both s (text END) w [] h.1)
opened s (value v ∷ w) h = absurd (let e : None ≡ Some (kind_of v) = h.0 in cc)

closed : (s : Syntax) (w : List Item) → Accepts w (text HEAD ∷ s ∷ text END ∷ []) → Accepts w (document s ∷ [])
closed s [] h = h
closed s (tag n ∷ w) h = (h.0, both_accepts s (text END) w [] h.1)
closed s (value v ∷ w) h = absurd (let e : None ≡ Some (kind_of v) = h.0 in cc)

pub start_means : (want : Want) → Means want (start_of want)
start_means want = record {
  plain = let p = wanted_plain want in (p.0, (p.1.0, (p.1.1, tt)));
  accepts = λ doc h. opened (content want) (items doc) (wanted_accepts want doc h);
  accepted = λ w h.
      let said = accepts_put (wanted want) (wanted_plain want) w [] (closed (content want) w h) in
      let e : w ≡ put (wanted want) said.says [] = said.parts ∙ ap (put (wanted want) said.says) (nothing_behind said.rest said.behind) in
      let d = said_as want said.says said.fits in
      record { doc = d.doc; wanted = d.wanted; parts = d.parts ∙ sym e };
}
