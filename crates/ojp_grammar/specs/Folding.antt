-- Items that are folded into values as they come.
use Rattle.std.specs.Prelude.{◌≡◌, ℕ, Bool, ◌||◌, ◌+◌, ◌-◌, ◌<◌, ◌==◌, if◌then◌else◌, List, [], ◌∷◌, ◌++◌, Option, Some, None}
use Rattle.ojp_values.specs.declared.kinds.EventKind.{EventKind as Events}
use Rattle.ojp_values.specs.declared.asks.Ask.TheVariants as asks
use Rattle.ojp_values.specs.declared.trips.Leg.{Leg}
use Rattle.ojp_values.specs.declared.trips.Trip.{Trip}
use Rattle.ojp_values.specs.declared.trips.Event.{Event}
use Rattle.ojp_values.specs.declared.trips.Neighbour.{Neighbour}
use Rattle.ojp_values.specs.declared.trips.Point.{Point}
use Rattle.ojp_values.specs.declared.replies.Fault.{Fault}
use Rattle.ojp_values.specs.declared.replies.Fault.TheVariants.{SameStop, StopUnknown, NoTrip, RegionFailed, NotServed}
use Rattle.ojp_values.specs.declared.replies.TripResult.{TripResult}
use Rattle.ojp_values.specs.declared.replies.TripResult.TheVariants as results
use Rattle.ojp_values.specs.declared.replies.TripReply.TheVariants as trip_replies
use Rattle.ojp_values.specs.declared.replies.MultiReply.TheVariants as multi_replies
use Rattle.ojp_values.specs.declared.replies.EventsReply.TheVariants as events_replies
use Rattle.ojp_values.specs.declared.replies.PointsReply.TheVariants as points_replies
use Rattle.ojp_values.specs.declared.replies.Delivery.{Delivery as Reply}
use Rattle.ojp_values.specs.declared.replies.Delivery.TheVariants as replies
use Rattle.ojp_values.specs.declared.documents.Doc.{Doc}
use Rattle.ojp_values.specs.declared.documents.Doc.TheVariants as docs
use Rattle.ojp_tables.specs.declared.names.TheConstants as names
use Rattle.ojp_grammar.specs.declared.fields.FieldValue.{FieldValue}
use Rattle.ojp_grammar.specs.declared.fields.FieldValue.TheVariants.{StopRef, Code, Label, Name, Moment, Day, Seconds, Change, Number, Count, EventKind}
use Rattle.ojp_grammar.specs.Items.{Item, tag, value, spell}
use Rattle.ojp_grammar.specs.Documents.{items, IsWanted, Spells}
use Rattle.ojp_grammar.specs.declared.refusals.Want.{Want}
use Rattle.ojp_grammar.specs.Syntax.{Syntax, many, Says, put, Fits}
use Rattle.ojp_grammar.specs.Steps.{Comes, ArePlain}
use Rattle.ojp_grammar.specs.Reached.{At, start_of}

-- the values that wait for their part, by kind, the last first; the parts of lists that are open; and the document
pub record Waiting : Type 0 where
  pub stops : List (List ℕ)
  pub codes : List (List ℕ)
  pub labels : List (List ℕ)
  pub names : List (List ℕ)
  pub moments : List ℕ
  pub days : List ℕ
  pub numbers : List ℕ
  pub kinds : List Events
  pub failed : List ℕ
  pub faults : List Fault
  pub targets : List (List ℕ)
  pub legs : List Leg
  pub trips : List Trip
  pub results : List TripResult
  pub events : List Event
  pub neighbours : List Neighbour
  pub points : List Point
  pub done : List Doc

abbrev pub nothing : Waiting
nothing = record {
  stops = [];
  codes = [];
  labels = [];
  names = [];
  moments = [];
  days = [];
  numbers = [];
  kinds = [];
  failed = [];
  faults = [];
  targets = [];
  legs = [];
  trips = [];
  results = [];
  events = [];
  neighbours = [];
  points = [];
  done = [];
}

abbrev pub push_value : FieldValue → Waiting → Waiting
push_value (StopRef s) w = record w { stops = s ∷ w.stops }
push_value (Code s) w = record w { codes = s ∷ w.codes }
push_value (Label s) w = record w { labels = s ∷ w.labels }
push_value (Name s) w = record w { names = s ∷ w.names }
push_value (Moment n) w = record w { moments = n ∷ w.moments }
push_value (Day n) w = record w { days = n ∷ w.days }
push_value (Seconds n) w = record w { numbers = n ∷ w.numbers }
push_value (Change n) w = record w { numbers = n ∷ w.numbers }
push_value (Number n) w = record w { numbers = n ∷ w.numbers }
push_value (Count n) w = record w { numbers = n ∷ w.numbers }
push_value (EventKind e) w = record w { kinds = e ∷ w.kinds }

-- the last of the values that wait
abbrev pub pop : {A : Type 0} → List A → (A → List A → Option Waiting) → Option Waiting
pop [] f = None
pop (x ∷ xs) f = f x xs

abbrev pub end_leg : Waiting → Option Waiting
end_leg w =
    pop w.stops (λ alight stops. pop stops (λ board stops.
    pop w.names (λ alight_name names. pop names (λ board_name names.
    pop w.moments (λ arrives moments. pop moments (λ departs moments.
    pop w.labels (λ line labels. pop labels (λ journey labels.
    pop w.days (λ day days. pop w.codes (λ region codes.
    Some (record w {
      stops = stops;
      names = names;
      moments = moments;
      labels = labels;
      days = days;
      codes = codes;
      legs = w.legs ++ (record {
        region = region;
        journey = journey;
        line = line;
        day = day;
        board = board;
        board_name = board_name;
        departs = departs;
        alight = alight;
        alight_name = alight_name;
        arrives = arrives;
      }) ∷ [];
    })))))))))))

abbrev pub end_trip : Waiting → Option Waiting
end_trip w =
    pop w.numbers (λ transfers numbers. pop numbers (λ duration numbers.
    pop w.moments (λ end moments. pop moments (λ start moments.
    Some (record w {
      numbers = numbers;
      moments = moments;
      legs = [];
      trips = (record { duration = duration; start = start; end = end; transfers = transfers; legs = w.legs }) ∷ w.trips;
    })))))

-- the fault with the code that was read
abbrev pub end_code : ℕ → Waiting → Option Waiting
end_code n w =
    if n == names.SAME_STOP then pop w.stops (λ s stops. Some (record w { stops = stops; faults = SameStop s ∷ w.faults }))
    else (if n == names.STOP_UNKNOWN then pop w.stops (λ s stops. Some (record w { stops = stops; faults = StopUnknown s ∷ w.faults }))
    else (if n == names.NO_TRIP then pop w.stops (λ s stops. Some (record w { stops = stops; faults = NoTrip s ∷ w.faults }))
    else (if n == names.REGION_FAILED then pop w.codes (λ c codes. Some (record w { codes = codes; faults = RegionFailed c ∷ w.faults }))
    else Some (record w { faults = NotServed ∷ w.faults }))))

abbrev pub end_fault : Waiting → Option Waiting
end_fault w = pop w.failed (λ n failed. end_code n (record w { failed = failed }))

-- the target that no trip reaches, if the fault says so
abbrev pub missed_by : Fault → Option (List ℕ)
missed_by (NoTrip s) = Some s
missed_by (SameStop s) = None
missed_by (StopUnknown s) = None
missed_by (RegionFailed c) = None
missed_by NotServed = None

abbrev pub keep_missed : Option (List ℕ) → Waiting → Option Waiting
keep_missed None w = None
keep_missed (Some s) w = Some (record w { results = w.results ++ results.NoTrip s ∷ [] })

abbrev pub result_of : List Trip → Waiting → Option Waiting
result_of [] w = pop w.faults (λ f faults. keep_missed (missed_by f) (record w { faults = faults }))
result_of (t ∷ trips) w = Some (record w { trips = trips; results = w.results ++ results.Trip t ∷ [] })

abbrev pub end_event : Waiting → Option Waiting
end_event w =
    pop w.stops (λ stop stops. pop w.numbers (λ order numbers. pop w.moments (λ moment moments. pop w.days (λ day days.
    pop w.labels (λ line labels. pop labels (λ journey labels. pop w.codes (λ region codes.
    Some (record w {
      stops = stops;
      numbers = numbers;
      moments = moments;
      days = days;
      labels = labels;
      codes = codes;
      events = w.events ++ (record { region = region; journey = journey; line = line; day = day; stop = stop; order = order; moment = moment }) ∷ [];
    }))))))))

abbrev pub end_neighbour : Waiting → Option Waiting
end_neighbour w =
    pop w.codes (λ code codes. pop w.numbers (λ change numbers.
    Some (record w { codes = codes; numbers = numbers; neighbours = w.neighbours ++ (record { code = code; change = change }) ∷ [] })))

abbrev pub end_point : Waiting → Option Waiting
end_point w =
    pop w.codes (λ region codes. pop w.stops (λ stop stops. pop w.numbers (λ change numbers.
    Some (record w {
      codes = codes;
      stops = stops;
      numbers = numbers;
      neighbours = [];
      points = w.points ++ (record { region = region; stop = stop; change = change; neighbours = w.neighbours }) ∷ [];
    }))))

abbrev pub end_target : Waiting → Option Waiting
end_target w = pop w.stops (λ stop stops. Some (record w { stops = stops; targets = w.targets ++ stop ∷ [] }))

abbrev pub finish : Doc → Waiting → Option Waiting
finish doc w = Some (record w { done = doc ∷ w.done })

abbrev pub end_trip_ask : Waiting → Option Waiting
end_trip_ask w =
    pop w.stops (λ origin stops. pop w.moments (λ start moments. pop w.targets (λ target targets.
    finish (docs.Ask (asks.Trip (record { origin = origin; start = start; target = target })))
    (record w { stops = stops; moments = moments; targets = [] }))))

abbrev pub end_multi_ask : Waiting → Option Waiting
end_multi_ask w =
    pop w.stops (λ origin stops. pop w.moments (λ start moments.
    finish (docs.Ask (asks.Multi (record { origin = origin; start = start; targets = w.targets })))
    (record w { stops = stops; moments = moments; targets = [] })))

abbrev pub end_event_ask : Waiting → Option Waiting
end_event_ask w =
    pop w.stops (λ stop stops. pop w.moments (λ start moments. pop w.numbers (λ number numbers. pop w.kinds (λ kind kinds.
    finish (docs.Ask (asks.Events (record { stop = stop; start = start; kind = kind; number = number })))
    (record w { stops = stops; moments = moments; numbers = numbers; kinds = kinds })))))

abbrev pub end_points_ask : List (List ℕ) → Waiting → Option Waiting
end_points_ask [] w = finish (docs.Ask (asks.Points (record { place = None }))) w
end_points_ask (stop ∷ stops) w = finish (docs.Ask (asks.Points (record { place = Some stop }))) (record w { stops = stops })

-- a fault is the reply, or else what was read
abbrev pub end_reply : (Fault → Reply) → Option Waiting → List Fault → Waiting → Option Waiting
end_reply failed read [] w = read
end_reply failed read (f ∷ faults) w = finish (docs.Delivery (failed f)) (record w { faults = faults })

abbrev pub end_trip_reply : Waiting → Option Waiting
end_trip_reply w =
    end_reply (λ f. replies.Trip (trip_replies.Fault f))
    (pop w.trips (λ t trips. finish (docs.Delivery (replies.Trip (trip_replies.Trip t))) (record w { trips = trips })))
    w.faults w

abbrev pub end_multi_reply : Waiting → Option Waiting
end_multi_reply w =
    end_reply (λ f. replies.Multi (multi_replies.Fault f))
    (finish (docs.Delivery (replies.Multi (multi_replies.Results w.results))) (record w { results = [] })) w.faults w

abbrev pub end_events_reply : Waiting → Option Waiting
end_events_reply w =
    end_reply (λ f. replies.Events (events_replies.Fault f))
    (finish (docs.Delivery (replies.Events (events_replies.Events w.events))) (record w { events = [] })) w.faults w

abbrev pub end_points_reply : Waiting → Option Waiting
end_points_reply w =
    end_reply (λ f. replies.Points (points_replies.Fault f))
    (finish (docs.Delivery (replies.Points (points_replies.Points w.points))) (record w { points = [] })) w.faults w

-- the text is an error code
abbrev pub is_code : ℕ → Bool
is_code n =
    n == names.SAME_STOP || n == names.STOP_UNKNOWN || n == names.NO_TRIP || n == names.REGION_FAILED || n == names.NOT_SERVED

-- a text that may end an ask or a delivery
abbrev pub take_end : ℕ → Waiting → Option Waiting
take_end n w =
    if n == names.OJP_TRIP_REQUEST + 1 then end_trip_ask w
    else (if n == names.OJP_MULTI_POINT_TRIP_REQUEST + 1 then end_multi_ask w
    else (if n == names.OJP_STOP_EVENT_REQUEST + 1 then end_event_ask w
    else (if n == names.OJP_EXCHANGE_POINTS_REQUEST + 1 then end_points_ask w.stops w
    else (if n == names.OJP_TRIP_DELIVERY + 1 then end_trip_reply w
    else (if n == names.OJP_MULTI_POINT_TRIP_DELIVERY + 1 then end_multi_reply w
    else (if n == names.OJP_STOP_EVENT_DELIVERY + 1 then end_events_reply w
    else (if n == names.OJP_EXCHANGE_POINTS_DELIVERY + 1 then end_points_reply w else Some w)))))))

-- what a text does: a closing text ends its part, an error code waits for its fault
abbrev pub take_text : ℕ → Waiting → Option Waiting
take_text n w =
    if n == names.TRIP_LEG + 1 then end_leg w
    else (if n == names.TRIP + 1 then end_trip w
    else (if n == names.MULTI_POINT_TRIP_RESULT + 1 then result_of w.trips w
    else (if n == names.STOP_EVENT_RESULT + 1 then end_event w
    else (if n == names.NEIGHBOUR + 1 then end_neighbour w
    else (if n == names.EXCHANGE_POINT + 1 then end_point w
    else (if n == names.DESTINATION + 1 then end_target w
    else (if n == names.ERROR_CONDITION + 1 then end_fault w
    else (if is_code n then Some (record w { failed = n ∷ w.failed }) else take_end n w))))))))

abbrev pub step : Item → Waiting → Option Waiting
step (tag n) w = take_text n w
step (value v) w = Some (push_value v w)

abbrev pub onward : Option Waiting → (Waiting → Option Waiting) → Option Waiting
onward None f = None
onward (Some w) f = f w

abbrev pub fold : Waiting → List Item → Option Waiting
fold w [] = Some w
fold w (i ∷ is) = onward (step i w) (λ next. fold next is)

-- the items of a document give it, and nothing waits
abbrev pub DocumentsFold : Type 0
DocumentsFold = (doc : Doc) → fold nothing (items doc) ≡ Some (record nothing { done = doc ∷ [] })

-- whole items of a wanted document fold
abbrev pub Drafts : Type 0
Drafts =
    (want : Want) (bytes : List ℕ) (front : List Item) (k : List Syntax) (tail : List ℕ) → At (start_of want) bytes front k tail
    → (d : Waiting) × (fold nothing front ≡ Some d)

-- the item that comes next is folded
abbrev pub Steps : Type 0
Steps =
    (want : Want) (bytes : List ℕ) (front : List Item) (s : Syntax) (k : List Syntax) (tail : List ℕ) (i : Item) (behind : List ℕ) (d : Waiting)
    → ArePlain (start_of want) → At (start_of want) bytes front (s ∷ k) tail → Comes s i tail behind → fold nothing front ≡ Some d
    → (e : Waiting) × (step i d ≡ Some e) × (fold nothing (front ++ i ∷ []) ≡ Some e)

-- at the end the document is there, and spells the bytes
abbrev pub Finishes : Type 0
Finishes =
    (want : Want) (bytes : List ℕ) (front : List Item) (d : Waiting) → At (start_of want) bytes front [] [] → fold nothing front ≡ Some d
    → (doc : Doc) × IsWanted want doc × Spells doc bytes × (d ≡ record nothing { done = doc ∷ [] })

-- one more part of a list is passed at once
abbrev pub PartPassed : Type 0
PartPassed =
    (start : List Syntax) (bytes : List ℕ) → ArePlain start → (front : List Item) (low high : ℕ) (a b : Syntax) (k : List Syntax) (v : Says a) (after : List ℕ)
    → At start bytes front (many low high a b ∷ k) (spell (put a v []) ++ after) → 0 < high → Fits a v
    → At start bytes (front ++ put a v []) (many (low - 1) (high - 1) a b ∷ k) after
