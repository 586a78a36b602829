-- The items of documents fold to them.
use Rattle.std.proofs.Common.{◌≡◌, refl, ℕ, ◌+◌, List, [], ◌∷◌, ◌++◌, Option, Some, None, sym, ◌∙◌, ap, append_assoc}
use Rattle.std.specs.Prelude.{map}
use Rattle.std.proofs.lemmas.List.{append-nil}
use Rattle.ojp_values.specs.declared.asks.Ask.{Ask}
use Rattle.ojp_values.specs.declared.asks.Ask.TheVariants as asks
use Rattle.ojp_values.specs.declared.trips.Leg.{Leg}
use Rattle.ojp_values.specs.declared.trips.Trip.{Trip}
use Rattle.ojp_values.specs.declared.trips.Event.{Event}
use Rattle.ojp_values.specs.declared.trips.Neighbour.{Neighbour}
use Rattle.ojp_values.specs.declared.trips.Point.{Point}
use Rattle.ojp_values.specs.declared.replies.Fault.{Fault}
use Rattle.ojp_values.specs.declared.replies.Fault.TheVariants.{SameStop, StopUnknown, NoTrip, RegionFailed, NotServed}
use Rattle.ojp_values.specs.declared.replies.TripResult.{TripResult}
use Rattle.ojp_values.specs.declared.replies.TripResult.TheVariants as results
use Rattle.ojp_values.specs.declared.replies.TripReply.TheVariants as trip_replies
use Rattle.ojp_values.specs.declared.replies.MultiReply.TheVariants as multi_replies
use Rattle.ojp_values.specs.declared.replies.EventsReply.TheVariants as events_replies
use Rattle.ojp_values.specs.declared.replies.PointsReply.TheVariants as points_replies
use Rattle.ojp_values.specs.declared.replies.Delivery.{Delivery as Reply}
use Rattle.ojp_values.specs.declared.replies.Delivery.TheVariants as replies
use Rattle.ojp_values.specs.declared.documents.Doc.{Doc}
use Rattle.ojp_values.specs.declared.documents.Doc.TheVariants as docs
use Rattle.ojp_tables.specs.declared.names.TheConstants as names
use Rattle.ojp_grammar.specs.Items.{Item, tag}
use Rattle.ojp_grammar.specs.Syntax.{Syntax, Says, put, put_each}
use Rattle.ojp_grammar.specs.Grammar.{TO, LEG, TRIP, FAULT, MULTI_RESULT, EVENT, NEIGHBOUR, POINT}
use Rattle.ojp_grammar.specs.Documents.{items, to_said, leg_said, trip_said, fault_said, result_said, event_said, neighbour_said, point_said}
use Rattle.ojp_grammar.specs.Folding.{Waiting, nothing, fold, DocumentsFold}

-- ---- lists

-- where each part of a list is added to what waits, the list is
each_folds : {A : Type 0} (a : Syntax) (said : A → Says a) (adds : List A → Waiting → Waiting) → ((w : Waiting) → adds [] w ≡ w) → ((x : A) (xs : List A) (w : Waiting) → adds xs (adds (x ∷ []) w) ≡ adds (x ∷ xs) w) → ((x : A) (w : Waiting) (rest : List Item) → fold w (put a (said x) rest) ≡ fold (adds (x ∷ []) w) rest) → (xs : List A) (w : Waiting) (rest : List Item) → fold w (put_each (put a) (map said xs) rest) ≡ fold (adds xs w) rest
each_folds a said adds none more one [] w rest = ap (λ v. fold v rest) (sym (none w))
each_folds a said adds none more one (x ∷ xs) w rest =
    one x w (put_each (put a) (map said xs) rest)
    ∙ (each_folds a said adds none more one xs (adds (x ∷ []) w) rest ∙ ap (λ v. fold v rest) (more x xs w))

targets_fold : (xs : List (List ℕ)) (w : Waiting) (rest : List Item) → fold w (put_each (put TO) (map to_said xs) rest) ≡ fold (record w { targets = w.targets ++ xs }) rest
targets_fold =
    each_folds TO to_said (λ xs w. record w { targets = w.targets ++ xs })
    (λ w. ap (λ (l : List (List ℕ)). record w { targets = l }) (append-nil w.targets))
    (λ x xs w. ap (λ (l : List (List ℕ)). record w { targets = l }) (append_assoc w.targets (x ∷ []) xs))
    (λ x w rest. refl)

legs_fold : (xs : List Leg) (w : Waiting) (rest : List Item) → fold w (put_each (put LEG) (map leg_said xs) rest) ≡ fold (record w { legs = w.legs ++ xs }) rest
legs_fold =
    each_folds LEG leg_said (λ xs w. record w { legs = w.legs ++ xs })
    (λ w. ap (λ (l : List Leg). record w { legs = l }) (append-nil w.legs))
    (λ x xs w. ap (λ (l : List Leg). record w { legs = l }) (append_assoc w.legs (x ∷ []) xs))
    (λ x w rest. refl)

events_fold : (xs : List Event) (w : Waiting) (rest : List Item) → fold w (put_each (put EVENT) (map event_said xs) rest) ≡ fold (record w { events = w.events ++ xs }) rest
events_fold =
    each_folds EVENT event_said (λ xs w. record w { events = w.events ++ xs })
    (λ w. ap (λ (l : List Event). record w { events = l }) (append-nil w.events))
    (λ x xs w. ap (λ (l : List Event). record w { events = l }) (append_assoc w.events (x ∷ []) xs))
    (λ x w rest. refl)

neighbours_fold : (xs : List Neighbour) (w : Waiting) (rest : List Item) → fold w (put_each (put NEIGHBOUR) (map neighbour_said xs) rest) ≡ fold (record w { neighbours = w.neighbours ++ xs }) rest
neighbours_fold =
    each_folds NEIGHBOUR neighbour_said (λ xs w. record w { neighbours = w.neighbours ++ xs })
    (λ w. ap (λ (l : List Neighbour). record w { neighbours = l }) (append-nil w.neighbours))
    (λ x xs w. ap (λ (l : List Neighbour). record w { neighbours = l }) (append_assoc w.neighbours (x ∷ []) xs))
    (λ x w rest. refl)

-- ---- parts with lists in them

trip_folds : (t : Trip) (w : Waiting) (rest : List Item) → fold (record w { legs = [] }) (put TRIP (trip_said t) rest) ≡ fold (record w { legs = []; trips = t ∷ w.trips }) rest
trip_folds t w rest =
    legs_fold t.legs (record w { legs = []; numbers = t.transfers ∷ t.duration ∷ w.numbers; moments = t.end ∷ t.start ∷ w.moments }) (tag (names.TRIP + 1) ∷ rest)

fault_folds : (f : Fault) (w : Waiting) (rest : List Item) → fold w (put FAULT (fault_said f) rest) ≡ fold (record w { faults = f ∷ w.faults }) rest
fault_folds (SameStop s) w rest = refl
fault_folds (StopUnknown s) w rest = refl
fault_folds (NoTrip s) w rest = refl
fault_folds (RegionFailed c) w rest = refl
fault_folds NotServed w rest = refl

-- no trip waits
abbrev idle : Waiting → Waiting
idle w = record w { legs = []; trips = []; faults = [] }

result_folds : (r : TripResult) (w : Waiting) (rest : List Item) → fold (idle w) (put MULTI_RESULT (result_said r) rest) ≡ fold (idle (record w { results = w.results ++ r ∷ [] })) rest
result_folds (results.Trip t) w rest = trip_folds t (idle w) (tag (names.MULTI_POINT_TRIP_RESULT + 1) ∷ rest)
result_folds (results.NoTrip s) w rest = refl

results_fold : (xs : List TripResult) (w : Waiting) (rest : List Item) → fold (idle w) (put_each (put MULTI_RESULT) (map result_said xs) rest) ≡ fold (idle (record w { results = w.results ++ xs })) rest
results_fold [] w rest = ap (λ (l : List TripResult). fold (idle (record w { results = l })) rest) (sym (append-nil w.results))
results_fold (x ∷ xs) w rest =
    result_folds x w (put_each (put MULTI_RESULT) (map result_said xs) rest)
    ∙ (results_fold xs (record w { results = w.results ++ x ∷ [] }) rest
    ∙ ap (λ (l : List TripResult). fold (idle (record w { results = l })) rest) (append_assoc w.results (x ∷ []) xs))

point_folds : (p : Point) (w : Waiting) (rest : List Item) → fold (record w { neighbours = [] }) (put POINT (point_said p) rest) ≡ fold (record w { neighbours = []; points = w.points ++ p ∷ [] }) rest
point_folds p w rest =
    neighbours_fold p.neighbours (record w { neighbours = []; codes = p.region ∷ w.codes; stops = p.stop ∷ w.stops; numbers = p.change ∷ w.numbers }) (tag (names.EXCHANGE_POINT + 1) ∷ rest)

points_fold : (xs : List Point) (w : Waiting) (rest : List Item) → fold (record w { neighbours = [] }) (put_each (put POINT) (map point_said xs) rest) ≡ fold (record w { neighbours = []; points = w.points ++ xs }) rest
points_fold [] w rest = ap (λ (l : List Point). fold (record w { neighbours = []; points = l }) rest) (sym (append-nil w.points))
points_fold (x ∷ xs) w rest =
    point_folds x w (put_each (put POINT) (map point_said xs) rest)
    ∙ (points_fold xs (record w { points = w.points ++ x ∷ [] }) rest
    ∙ ap (λ (l : List Point). fold (record w { neighbours = []; points = l }) rest) (append_assoc w.points (x ∷ []) xs))

-- ---- documents

-- the texts behind an ask, and behind a delivery
abbrev ask_end : List Item
ask_end = tag (names.SERVICE_REQUEST + 1) ∷ tag (names.OJP_REQUEST + 1) ∷ tag names.END ∷ []

abbrev reply_end : List Item
reply_end = tag (names.SERVICE_DELIVERY + 1) ∷ tag (names.OJP_RESPONSE + 1) ∷ tag names.END ∷ []

abbrev Folds : Doc → Type 0
Folds doc = fold nothing (items doc) ≡ Some (record nothing { done = doc ∷ [] })

place_folds : (place : Option (List ℕ)) → Folds (docs.Ask (asks.Points (record { place = place })))
unfolding items
place_folds None = refl
place_folds (Some s) = refl

ask_folds : (a : Ask) → Folds (docs.Ask a)
unfolding items
ask_folds (asks.Trip a) = refl
ask_folds (asks.Multi a) =
    targets_fold a.targets (record nothing { stops = a.origin ∷ []; moments = a.start ∷ [] }) (tag (names.OJP_MULTI_POINT_TRIP_REQUEST + 1) ∷ ask_end)
ask_folds (asks.Events a) = refl
ask_folds (asks.Points a) = place_folds a.place

reply_folds : (r : Reply) → Folds (docs.Delivery r)
unfolding items
reply_folds (replies.Trip (trip_replies.Fault f)) = fault_folds f nothing (tag (names.OJP_TRIP_DELIVERY + 1) ∷ reply_end)
reply_folds (replies.Trip (trip_replies.Trip t)) =
    trip_folds t nothing (tag (names.TRIP_RESULT + 1) ∷ tag (names.OJP_TRIP_DELIVERY + 1) ∷ reply_end)
reply_folds (replies.Multi (multi_replies.Fault f)) = fault_folds f nothing (tag (names.OJP_MULTI_POINT_TRIP_DELIVERY + 1) ∷ reply_end)
reply_folds (replies.Multi (multi_replies.Results rs)) = results_fold rs nothing (tag (names.OJP_MULTI_POINT_TRIP_DELIVERY + 1) ∷ reply_end)
reply_folds (replies.Events (events_replies.Fault f)) = fault_folds f nothing (tag (names.OJP_STOP_EVENT_DELIVERY + 1) ∷ reply_end)
reply_folds (replies.Events (events_replies.Events es)) = events_fold es nothing (tag (names.OJP_STOP_EVENT_DELIVERY + 1) ∷ reply_end)
reply_folds (replies.Points (points_replies.Fault f)) = fault_folds f nothing (tag (names.OJP_EXCHANGE_POINTS_DELIVERY + 1) ∷ reply_end)
reply_folds (replies.Points (points_replies.Points ps)) = points_fold ps nothing (tag (names.OJP_EXCHANGE_POINTS_DELIVERY + 1) ∷ reply_end)

pub document_folds : DocumentsFold
document_folds (docs.Ask a) = ask_folds a
document_folds (docs.Delivery r) = reply_folds r
