-- Which events were found among the first calls.
use Rattle.std.proofs.Common.{◌≡◌, ℕ, suc, zero, ◌+◌, ◌-◌, ◌*◌, ◌<◌, ◌≤◌, ◌==◌, ◌&&◌, ◌⊎◌, inl, inr, Bool, true, false, nat_lt, List, [], length, take, refl, sym, ◌∙◌, ap, subst, arith, slice_get}
use Rattle.std.specs.Prelude.{Option, Some, None, OnOk, Result, Ok, Err}
use Rattle.std.proofs.lemmas.Bool.{cases_Bool, cases_lt}
use Rattle.std.proofs.lemmas.Bool.Decides.{nat_tests}
use Rattle.std.proofs.lemmas.Option.{none-some, same_Some, slice_get_within}
use Rattle.ojp_values.proofs.EachFacts.{each_of}
use Rattle.ojp_values.specs.Lists.{Among}
use Rattle.ojp_values.specs.Texts.{same, text_lt}
use Rattle.ojp_values.specs.declared.asks.EventAsk.{EventAsk}
use Rattle.ojp_values.specs.declared.kinds.EventKind.{EventKind}
use Rattle.ojp_values.specs.declared.kinds.EventKind.TheVariants.{Departure, Arrival}
use Rattle.ojp_values.specs.declared.moments.TheConstants.{FIRST_DAY, LAST_DAY}
use Rattle.ojp_values.specs.declared.trips.Event.{Event}
use Rattle.ojp_timetable.specs.Tables.{Timetable, Journey}
use Rattle.ojp_timetable.specs.declared.calls.Call.{Call}
use Rattle.ojp_timetable.specs.Runs.{IsOffset, IsWell, RunsOn, day_long, moment}
use Rattle.ojp_timetable.specs.Views.{calls_at}
use Rattle.ojp_timetable.specs.declared.kept.JourneyView.{JourneyView}
use Rattle.ojp_timetable.specs.Answers.{AreEvents, event_lt, offset_of}
use Rattle.ojp_timetable.proofs.AmongFacts.{among_insert, among_insert_or, among_inserted}
use Rattle.ojp_timetable.proofs.ListFacts.{rises_with}
use Rattle.ojp_timetable.proofs.Orders.{IsOrder, both, number_order, text_order, then_order}
use Rattle.ojp_timetable.proofs.ReadFacts.{among_at, at_among, calls_are, moment_high, moment_low, one_number, read_at, read_once}
use Rattle.ojp_timetable.proofs.TextFacts.{same_is}
use Rattle.ojp_stop_events.specs.Found.{AreFirst, HasNoEvent, IsBefore, IsCalled, IsEventOf, RunCall, with_event}
use Rattle.ojp_stop_events.proofs.PlaceFacts.{take_with}

-- ---- the order of events

abbrev tie : Event → Event → Bool
tie x y = (x.moment == y.moment) && (same x.region y.region && (same x.journey y.journey && ((x.day == y.day) && (x.order == y.order))))

event_order : IsOrder event_lt tie
unfolding event_lt
event_order =
    then_order (λ (x : Event) (y : Event). nat_lt x.moment y.moment) (λ (x : Event) (y : Event). x.moment == y.moment) _ _ (number_order (λ (x : Event). x.moment))
    (then_order (λ (x : Event) (y : Event). text_lt x.region y.region) (λ (x : Event) (y : Event). same x.region y.region) _ _ (text_order (λ (x : Event). x.region))
    (then_order (λ (x : Event) (y : Event). text_lt x.journey y.journey) (λ (x : Event) (y : Event). same x.journey y.journey) _ _ (text_order (λ (x : Event). x.journey))
    (then_order (λ (x : Event) (y : Event). nat_lt x.day y.day) (λ (x : Event) (y : Event). x.day == y.day) _ _ (number_order (λ (x : Event). x.day))
    (number_order (λ (x : Event). x.order)))))

-- ---- one call makes one event, and no two calls make the same

one_call : (table : Timetable) (ask : EventAsk) (at : RunCall) (x y : Event) → IsEventOf table ask x at → IsEventOf table ask y at → x ≡ y
one_call table ask at x y a b =
    let journeys : a.journey ≡ b.journey = read_once table.journeys at.journey at.journey a.journey b.journey refl a.read b.read in
    let calls : a.call ≡ b.call =
    read_once a.journey.calls at.position at.position a.call b.call refl a.call_at (ap (λ (j : Journey). slice_get j.calls at.position) journeys ∙ b.call_at) in
    let offsets : a.offset ≡ b.offset = same_Some a.offset b.offset (sym a.is_offset ∙ (ap (λ (c : Call). offset_of ask.kind c) calls ∙ b.is_offset)) in
    let made : Journey → ℕ → Event = λ j o. record { region = table.region; journey = j.id; line = j.line; day = at.day; stop = ask.stop; order = at.position + 1; moment = moment table at.day o } in
    a.is ∙ (ap (λ (j : Journey). made j a.offset) journeys ∙ (ap (λ (o : ℕ). made b.journey o) offsets ∙ sym b.is))

is_equal : (m n : ℕ) → (m == n) ≡ true → m ≡ n
is_equal m n h = grind (arith, nat_tests)

-- the call that comes before another is not that call
not_before : (at : RunCall) (journey position day : ℕ) → IsBefore at journey position day → at.journey ≡ journey → at.position ≡ position → at.day ≡ day → ⊥
not_before at journey position day h j p d = elim h [
  | inl l ↦ absurd (omega (arith, l, j))
  | inr r ↦ elim r.1 [ inl l ↦ absurd (omega (arith, l, p)) | inr s ↦ absurd (omega (arith, s.1, d)) ]
]

apart : (table : Timetable) (ask : EventAsk) (x y : Event) (at : RunCall) (j p d : ℕ) → IsWell table → IsEventOf table ask x (record { journey = j; position = p; day = d }) → IsEventOf table ask y at
    → IsBefore at j p d → tie x y ≡ true → ⊥
apart table ask x y at j p d well a b before t =
    let moments = both (x.moment == y.moment) _ t in
    let regions = both (same x.region y.region) _ moments.1 in
    let journeys = both (same x.journey y.journey) _ regions.1 in
    let days = both (x.day == y.day) (x.order == y.order) journeys.1 in
    let labels : b.journey.id ≡ a.journey.id =
    sym (ap (λ (e : Event). e.journey) b.is) ∙ (sym (same_is x.journey y.journey journeys.0) ∙ ap (λ (e : Event). e.journey) a.is) in
    let day : at.day ≡ d = sym (ap (λ (e : Event). e.day) b.is) ∙ (sym (is_equal x.day y.day days.0) ∙ ap (λ (e : Event). e.day) a.is) in
    let order : at.position + 1 ≡ p + 1 = sym (ap (λ (e : Event). e.order) b.is) ∙ (sym (is_equal x.order y.order days.1) ∙ ap (λ (e : Event). e.order) a.is) in
    not_before at j p d before (one_number table.journeys at.journey j b.journey a.journey well.labels b.read a.read labels) (omega (arith, order)) day

-- ---- calls more

abbrev Found : Timetable → EventAsk → ℕ → ℕ → ℕ → Event → Type 0
Found table ask j p d event = (at : RunCall) × IsBefore at j p d × IsEventOf table ask event at

-- the calls between make no event
pub pass_on : (table : Timetable) (ask : EventAsk) (j p d k q e : ℕ) (events : List Event) → AreFirst table ask j p d events
    → ((at : RunCall) → IsBefore at j p d → IsBefore at k q e) → ((at : RunCall) (event : Event) → IsBefore at k q e → IsEventOf table ask event at → IsBefore at j p d)
    → AreFirst table ask k q e events
pass_on table ask j p d k q e events first more none = record {
  all = first.all;
  just_these = λ event. (
    (λ a. let found = (first.just_these event).0 a in (found.0, more found.0 found.1, found.2)),
    (λ found. (first.just_these event).1 (found.0, none found.0 event found.1 found.2, found.2)),
  );
  rising = first.rising;
  cut = first.cut;
}

next_day : (at : RunCall) (j p d : ℕ) → IsBefore at j p (d + 1) → IsBefore at j p d ⊎ ((at.journey ≡ j) × (at.position ≡ p) × (at.day ≡ d))
next_day at j p d h = elim h [
  | inl l ↦ inl (inl l)
  | inr r ↦ elim r.1 [
    | inl l ↦ inl (inr (r.0, inl l))
    | inr s ↦ elim (cases_lt at.day d) [
      | inl l ↦ inl (inr (r.0, inr (s.0, l)))
      | inr g ↦ inr (r.0, s.0, omega (arith, s.1, g))
    ]
  ]
]

same_day : (at : RunCall) (j p d : ℕ) → IsBefore at j p d → IsBefore at j p (d + 1)
same_day at j p d h = elim h [
  | inl l ↦ inl l
  | inr r ↦ elim r.1 [ inl l ↦ inr (r.0, inl l) | inr s ↦ inr (r.0, inr (s.0, omega (arith, s.1))) ]
]

at_is : (at : RunCall) (j p d : ℕ) → at.journey ≡ j → at.position ≡ p → at.day ≡ d → at ≡ record { journey = j; position = p; day = d }
at_is at j p d a b c = λ i. record { journey = a i; position = b i; day = c i }

-- no event of the day
pub none_more : (table : Timetable) (ask : EventAsk) (j p d : ℕ) (events : List Event) → AreFirst table ask j p d events → HasNoEvent table ask j p d → AreFirst table ask j p (d + 1) events
none_more table ask j p d events first none =
    pass_on table ask j p d j p (d + 1) events first (λ at h. same_day at j p d h)
    (λ at event h is. elim (next_day at j p d h) [
      | inl b ↦ b
      | inr e ↦ absurd (none event (subst (IsEventOf table ask event) (at_is at j p d e.0 e.1 e.2) is))
    ])

-- the event of the day
pub one_more : (table : Timetable) (ask : EventAsk) (j p d : ℕ) (events : List Event) (event : Event) → IsWell table → AreFirst table ask j p d events
    → IsEventOf table ask event (record { journey = j; position = p; day = d }) → AreFirst table ask j p (d + 1) (take ask.number (with_event events event))
one_more table ask j p d events event well first is =
    let all = first.all in
    let here : RunCall = record { journey = j; position = p; day = d } in
    record {
      all = with_event all event;
      just_these = λ x. (
        (λ a. elim (among_insert_or x all _ event a) [
          | inl b ↦ let found = (first.just_these x).0 b in (found.0, same_day found.0 j p d found.1, found.2)
          | inr e ↦ (here, inr (refl, inr (refl, omega arith)), subst (λ (y : Event). IsEventOf table ask y here) (sym e) is)
        ]),
        (λ found. elim (next_day found.0 j p d found.1) [
          | inl b ↦ among_insert x all _ event ((first.just_these x).1 (found.0, b, found.2))
          | inr e ↦
              let same_event : x ≡ event = one_call table ask here x event (subst (IsEventOf table ask x) (at_is found.0 j p d e.0 e.1 e.2) found.2) is in
              subst (λ (y : Event). Among y (with_event all event)) (sym same_event) (among_inserted all _ event)
        ]),
      );
      rising = rises_with event_lt event_order.carried event all
          (each_of (λ (y : Event). event_lt event y ≡ false → event_lt y event ≡ true) all (λ y a h.
          let found = (first.just_these y).0 a in
          elim (cases_Bool (tie event y)) [
            | inl t ↦ absurd (apart table ask event y found.0 j p d well is found.2 found.1 t)
            | inr t ↦ event_order.other event y h t
          ])) first.rising;
      cut = ap (λ (es : List Event). take ask.number (with_event es event)) first.cut ∙ take_with (event_lt event) ask.number all event;
    }

-- ---- a whole call, a whole journey, all journeys

take_none : {X : Type 0} (n : ℕ) → take {A = X} n [] ≡ []
take_none zero = refl
take_none (suc n) = refl

nothing_before : (at : RunCall) → IsBefore at 0 0 0 → ⊥
nothing_before at h = elim h [
  | inl l ↦ absurd (omega (arith, l))
  | inr r ↦ elim r.1 [ inl l ↦ absurd (omega (arith, l)) | inr s ↦ absurd (omega (arith, s.1)) ]
]

pub none_yet : (table : Timetable) (ask : EventAsk) → AreFirst table ask 0 0 0 []
none_yet table ask = record {
  all = [];
  just_these = λ event. ((λ a. absurd a), (λ found. absurd (nothing_before found.0 found.1)));
  rising = tt;
  cut = sym (take_none ask.number);
}

-- the call has no event before the first day that matters
pub from_day : (table : Timetable) (ask : EventAsk) (j p d : ℕ) (events : List Event) → ((day : ℕ) → day < d → HasNoEvent table ask j p day)
    → AreFirst table ask j p 0 events → AreFirst table ask j p d events
from_day table ask j p d events none first =
    pass_on table ask j p 0 j p d events first
    (λ at h. elim h [
      | inl l ↦ inl l
      | inr r ↦ elim r.1 [ inl l ↦ inr (r.0, inl l) | inr s ↦ absurd (omega (arith, s.1)) ]
    ])
    (λ at event h is. elim h [
      | inl l ↦ inl l
      | inr r ↦ elim r.1 [
        | inl l ↦ inr (r.0, inl l)
        | inr s ↦ absurd (none at.day s.1 event (subst (IsEventOf table ask event) (at_is at j p at.day r.0 s.0 refl) is))
      ]
    ])

-- nor behind the last
pub to_next_call : (table : Timetable) (ask : EventAsk) (j p d : ℕ) (events : List Event) → ((day : ℕ) → d ≤ day → HasNoEvent table ask j p day)
    → AreFirst table ask j p d events → AreFirst table ask j (p + 1) 0 events
to_next_call table ask j p d events none first =
    pass_on table ask j p d j (p + 1) 0 events first
    (λ at h. elim h [
      | inl l ↦ inl l
      | inr r ↦ elim r.1 [ inl l ↦ inr (r.0, inl (omega (arith, l))) | inr s ↦ inr (r.0, inl (omega (arith, s.0))) ]
    ])
    (λ at event h is. elim h [
      | inl l ↦ inl l
      | inr r ↦ elim r.1 [
        | inl l ↦ elim (cases_lt at.position p) [
          | inl b ↦ inr (r.0, inl b)
          | inr g ↦
              let here : at.position ≡ p = omega (arith, l, g) in
              elim (cases_lt at.day d) [
                | inl b ↦ inr (r.0, inr (here, b))
                | inr e ↦ absurd (none at.day e event (subst (IsEventOf table ask event) (at_is at j p at.day r.0 here refl) is))
              ]
        ]
        | inr s ↦ absurd (omega (arith, s.1))
      ]
    ])

-- a call elsewhere makes no event
pub elsewhere : (table : Timetable) (ask : EventAsk) (j p : ℕ) (of : Journey) (call : Call) → slice_get table.journeys j ≡ Some of → slice_get of.calls p ≡ Some call → (call.stop ≡ ask.stop → ⊥)
    → (day : ℕ) → HasNoEvent table ask j p day
elsewhere table ask j p of call at call_at other day event is =
    let journeys : is.journey ≡ of = read_once table.journeys j j is.journey of refl is.read at in
    let calls : is.call ≡ call = read_once of.calls p p is.call call refl (ap (λ (k : Journey). slice_get k.calls p) (sym journeys) ∙ is.call_at) call_at in
    other (ap (λ (c : Call). c.stop) (sym calls) ∙ is.stop)

-- no call is behind the last
pub to_next_journey : (table : Timetable) (ask : EventAsk) (j p : ℕ) (of : Journey) (events : List Event) → slice_get table.journeys j ≡ Some of → length of.calls ≤ p
    → AreFirst table ask j p 0 events → AreFirst table ask (j + 1) 0 0 events
to_next_journey table ask j p of events read all first =
    pass_on table ask j p 0 (j + 1) 0 0 events first
    (λ at h. elim h [ inl l ↦ inl (omega (arith, l)) | inr r ↦ inl (omega (arith, r.0)) ])
    (λ at event h is. elim h [
      | inl l ↦ elim (cases_lt at.journey j) [
        | inl b ↦ inl b
        | inr g ↦
            let here : at.journey ≡ j = omega (arith, l, g) in
            let journeys : is.journey ≡ of = read_once table.journeys at.journey j is.journey of here is.read read in
            let within = slice_get_within is.journey.calls at.position is.call is.call_at in
            let as_long : length is.journey.calls ≡ length of.calls = ap (λ (k : Journey). length k.calls) journeys in
            inr (here, inl (omega (arith, within, all, as_long)))
      ]
      | inr r ↦ elim r.1 [ inl l ↦ absurd (omega (arith, l)) | inr s ↦ absurd (omega (arith, s.1)) ]
    ])

-- the events of all calls are those that were asked
pub all_found : (table : Timetable) (ask : EventAsk) (j : ℕ) (events : List Event) → length table.journeys ≤ j → AreFirst table ask j 0 0 events → AreEvents table ask events
all_found table ask j events whole first = record {
  all = first.all;
  just_these = λ event. (
    (λ a.
        let found = (first.just_these event).0 a in
        let at = found.0 in
        let is = found.2 in
        record {
          journey = is.journey;
          day = at.day;
          i = at.position;
          call = is.call;
          offset = is.offset;
          of_table = among_at table.journeys at.journey is.journey is.read;
          runs = is.runs;
          at = is.call_at;
          stop = is.stop;
          is_offset = is.is_offset;
          from = is.from;
          to = is.to;
          is = is.is;
        }),
    (λ is.
        let number = at_among table.journeys is.journey is.of_table in
        let within = slice_get_within table.journeys number.0 is.journey number.1 in
        (first.just_these event).1 (
          record { journey = number.0; position = is.i; day = is.day },
          inl (omega (arith, within, whole)),
          record {
            journey = is.journey;
            call = is.call;
            offset = is.offset;
            read = number.1;
            runs = is.runs;
            call_at = is.at;
            stop = is.stop;
            is_offset = is.is_offset;
            from = is.from;
            to = is.to;
            is = is.is;
          },
        )),
  );
  rising = first.rising;
  cut = first.cut;
}

-- ---- the days that matter

offset_in : (kind : EventKind) (call : Call) (u : ℕ) → IsOffset call.arrives → IsOffset call.departs → offset_of kind call ≡ Some u → u ≤ 129600
offset_in Departure call u a d e = let h = subst IsOffset e d in h
offset_in Arrival call u a d e = let h = subst IsOffset e a in h

pub event_offset : (table : Timetable) (ask : EventAsk) (event : Event) (at : RunCall) → IsWell table → (is : IsEventOf table ask event at) → is.offset ≤ 129600
event_offset table ask event at well is =
    let call = well.calls is.journey (among_at table.journeys at.journey is.journey is.read) is.call (among_at is.journey.calls at.position is.call is.call_at) in
    offset_in ask.kind is.call is.offset call.arrives call.departs is.is_offset

pub not_early : (table : Timetable) (ask : EventAsk) (j p first : ℕ) → IsWell table → 86400 * first ≤ ask.start - 187140 → (day : ℕ) → day < first → HasNoEvent table ask j p day
not_early table ask j p first well early day before event is =
    let offset = event_offset table ask event (record { journey = j; position = p; day = day }) well is in
    let high = moment_high table well day is.offset is.runs.low is.runs.high in
    let from = is.from in
    omega (arith, offset, high, from, early, before)

pub not_late : (table : Timetable) (ask : EventAsk) (j p end : ℕ) → IsWell table → ask.start + 143940 < 86400 * end → (day : ℕ) → end ≤ day → HasNoEvent table ask j p day
not_late table ask j p end well late day past event is =
    let low = moment_low table well day is.offset is.runs.low is.runs.high in
    let to = is.to in
    omega (arith, low, to, late, past)

-- no event is on a day that is no operating day
pub no_day : (table : Timetable) (ask : EventAsk) (j p day : ℕ) → ((FIRST_DAY ≤ day) × (day ≤ LAST_DAY) → ⊥) → HasNoEvent table ask j p day
no_day table ask j p day none event is = none (is.runs.low, is.runs.high)

-- ---- the call that is read

pub ok_then : {X E : Type 0} (r : Result X E) (P Q : Type 0) → (P → Q) → OnOk r P → OnOk r Q
ok_then (Ok x) P Q f h = f h
ok_then (Err e) P Q f h = tt

pub called : (table : Timetable) (j p : ℕ) (call : Call) → j < length table.journeys → slice_get (calls_at table.journeys j) p ≡ Some call → IsCalled table j p
called table j p call within h =
    let of = read_at table.journeys j within in
    record { of = of.0; call = call; at = of.1; call_at = subst (λ (cs : List Call). slice_get cs p ≡ Some call) (calls_are table.journeys j of.0 of.1) h }

-- no call is behind the last of those that were read
pub no_more_calls : (table : Timetable) (ask : EventAsk) (j p : ℕ) (events : List Event) → j < length table.journeys → length (calls_at table.journeys j) ≤ p
    → AreFirst table ask j p 0 events → AreFirst table ask (j + 1) 0 0 events
no_more_calls table ask j p events within all first =
    let of = read_at table.journeys j within in
    to_next_journey table ask j p of.0 events of.1 (subst (λ (cs : List Call). length cs ≤ p) (calls_are table.journeys j of.0 of.1) all) first

pub call_here : (table : Timetable) (j p : ℕ) (k : IsCalled table j p) (call : Call) → slice_get (calls_at table.journeys j) p ≡ Some call → slice_get k.of.calls p ≡ Some call
call_here table j p k call h = subst (λ (cs : List Call). slice_get cs p ≡ Some call) (calls_are table.journeys j k.of k.at) h

journey_of : (table : Timetable) (ask : EventAsk) (event : Event) (at : RunCall) (of : Journey) → slice_get table.journeys at.journey ≡ Some of → (is : IsEventOf table ask event at) → is.journey ≡ of
journey_of table ask event at of read is = read_once table.journeys at.journey at.journey is.journey of refl is.read read

call_of : (table : Timetable) (ask : EventAsk) (event : Event) (at : RunCall) (of : Journey) (call : Call) → slice_get table.journeys at.journey ≡ Some of → slice_get of.calls at.position ≡ Some call
    → (is : IsEventOf table ask event at) → is.call ≡ call
call_of table ask event at of call read call_at is =
    read_once of.calls at.position at.position is.call call refl (ap (λ (k : Journey). slice_get k.calls at.position) (sym (journey_of table ask event at of read is)) ∙ is.call_at) call_at

-- a call without such an offset makes no event
pub no_offset : (table : Timetable) (ask : EventAsk) (j p : ℕ) (of : Journey) (call : Call) → slice_get table.journeys j ≡ Some of → slice_get of.calls p ≡ Some call → offset_of ask.kind call ≡ None
    → (day : ℕ) → HasNoEvent table ask j p day
no_offset table ask j p of call at call_at none day event is =
    none-some is.offset (sym none ∙ (ap (λ (c : Call). offset_of ask.kind c) (sym (call_of table ask event (record { journey = j; position = p; day = day }) of call at call_at is)) ∙ is.is_offset))

-- nor does one whose journey does not run
pub no_run : (table : Timetable) (ask : EventAsk) (j p day : ℕ) (of : Journey) → slice_get table.journeys j ≡ Some of → (RunsOn table of.service day → ⊥) → HasNoEvent table ask j p day
no_run table ask j p day of at idle event is =
    idle (subst (λ (k : Journey). RunsOn table k.service day) (journey_of table ask event (record { journey = j; position = p; day = day }) of at is) is.runs)

-- nor one outside the asked day
pub no_moment : (table : Timetable) (ask : EventAsk) (j p day u : ℕ) (of : Journey) (call : Call) → slice_get table.journeys j ≡ Some of → slice_get of.calls p ≡ Some call → offset_of ask.kind call ≡ Some u
    → ((ask.start ≤ moment table day u) × (moment table day u ≤ ask.start + day_long) → ⊥) → HasNoEvent table ask j p day
no_moment table ask j p day u of call at call_at offset never event is =
    let calls = call_of table ask event (record { journey = j; position = p; day = day }) of call at call_at is in
    let same_offset : is.offset ≡ u = same_Some is.offset u (sym is.is_offset ∙ (ap (λ (c : Call). offset_of ask.kind c) calls ∙ offset)) in
    never (subst (λ (o : ℕ). ask.start ≤ moment table day o) same_offset is.from, subst (λ (o : ℕ). moment table day o ≤ ask.start + day_long) same_offset is.to)

pub offset_within : (table : Timetable) (ask : EventAsk) (j p u : ℕ) (of : Journey) (call : Call) → IsWell table → slice_get table.journeys j ≡ Some of → slice_get of.calls p ≡ Some call
    → offset_of ask.kind call ≡ Some u → u ≤ 129600
offset_within table ask j p u of call well at call_at offset =
    let good = well.calls of (among_at table.journeys j of at) call (among_at of.calls p call call_at) in
    offset_in ask.kind call u good.arrives good.departs offset
