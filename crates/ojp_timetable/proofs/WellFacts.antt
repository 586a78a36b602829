-- Each line that passes keeps the contents well.
use Rattle.std.proofs.Common.{◌≡◌, ◌≢◌, ℕ, ◌+◌, ◌<◌, ◌≤◌, ◌⊎◌, inl, inr, Bool, true, false, not, ◌&&◌, cond, List, [], ◌∷◌, ◌++◌, length, refl, sym, ◌∙◌, ap, subst, arith, true≢false, length-append, nat_le, lit≤}
use Rattle.std.specs.Prelude.{Option, Some, None, IsSome, unwrap_or}
use Rattle.std.proofs.lemmas.Bool.Decides.{nat_tests}
use Rattle.std.proofs.lemmas.List.Sums.{sum_by-cons, sum_by_push}
use Rattle.ojp_values.specs.Dates.{operating_days}
use Rattle.ojp_values.specs.Lists.{Among, Each}
use Rattle.ojp_zones.specs.Noons.{AreNear, IsZone}
use Rattle.ojp_zones.specs.declared.zone.Zone.{Zone}
use Rattle.ojp_values.specs.Texts.{Text, same, home, is_exchange, code_part}
use Rattle.ojp_values.specs.declared.moments.TheConstants.{FIRST_DAY, LAST_DAY}
use Rattle.ojp_values.specs.declared.trips.Point.{Point}
use Rattle.ojp_values.specs.declared.trips.Neighbour.{Neighbour}
use Rattle.ojp_timetable.specs.declared.file.above.TheConstants.{BYTES}
use Rattle.ojp_timetable.specs.Tables.{Call, Journey, Place, Service}
use Rattle.ojp_timetable.specs.Points.{AreWellPoints}
use Rattle.ojp_timetable.specs.Runs.{AreDays, AreWhole, GoToEnd, HaveOwnLabels, IsOffset, IsWell, IsWellCall, NoneFalls, NotBefore, calls_of, latest}
use Rattle.ojp_timetable.specs.Contents.{Contents, calls_in, has_journey, has_place, has_service, point_with, points_with, service_number, timetable_of, with_call, with_point}
use Rattle.ojp_timetable.specs.Lines.{Above, after_line, grown, IsWellLine, left_by, left_open, new_point, no_lines}
use Rattle.ojp_timetable.specs.Checks.{departed, falls_from, is_before, is_doubled, is_falling, is_foreign, is_full, is_stop_elsewhere, lacks_service, lacks_stop, later_of}
use Rattle.ojp_timetable.specs.WellContents.{AreBegun, AreWholeBut, EndsOpen, GoesOnFrom, HasCome, IsWellAbove, IsWellContents, IsWellSoFar, MayStand, Passes, StandOpen, last_time}
use Rattle.ojp_timetable.specs.Said.{is_closed}
use Rattle.ojp_timetable.specs.declared.file.lines.Line.{Line}
use Rattle.ojp_timetable.specs.declared.file.lines.Line.TheVariants as lines
use Rattle.ojp_timetable.specs.declared.file.lines.Dates.{Dates}
use Rattle.ojp_timetable.specs.declared.file.lines.Open.{Open}
use Rattle.ojp_timetable.specs.declared.file.lines.Open.TheVariants.{Nothing, Begun, Since}
use Rattle.ojp_timetable.proofs.AmongFacts.{among_insert, among_insert_or, among_inserted, among_last, among_left, among_push, any_false, any_true, each_push, or_false, place_within}
use Rattle.ojp_timetable.proofs.TextFacts.{is_same, same_is}

-- a point of the same reference and change time still stands
abbrev Still : Contents → List Point → Type 0
Still contents points = (point : Point) → Among point contents.points → (other : Point) × Among other points × (other.stop ≡ point.stop) × (other.change ≡ point.change)

-- a call stays well where the region stays, and no place and no point goes
call_stays : (old new : Contents) (call : Call) → new.region ≡ old.region → ((place : Place) → Among place old.places → Among place new.places) → Still old new.points
    → IsWellCall (timetable_of old []) call → IsWellCall (timetable_of new []) call
call_stays old new call region places points w = record {
  place = w.place;
  is_place = places w.place w.is_place;
  at = w.at;
  of_region = elim w.of_region [
    | inl e ↦ inl (e ∙ ap Some (sym region))
    | inr p ↦ let other = points p.0 p.1 in inr (other.0, other.1, other.2 ∙ p.2)
  ];
  arrives = w.arrives;
  departs = w.departs;
}

no_change : (contents : Contents) → Still contents contents.points
no_change contents = λ point a. (point, a, refl, refl)

-- ---- a place

points_grow : (b : Bool) (contents : Contents) (added : Point) → Still contents (cond b (with_point contents.points added) contents.points)
points_grow true contents added = λ point a. (point, among_insert point contents.points _ added a, refl, refl)
points_grow false contents added = no_change contents

added_stands : (b : Bool) (points : List Point) (added : Point) → b ≡ true → Among added (cond b (with_point points added) points)
added_stands true points added e = among_inserted points _ added
added_stands false points added e = absurd (true≢false (sym e))

grown_from : (b : Bool) (points : List Point) (added x : Point) → Among x (cond b (with_point points added) points) → Among x points ⊎ (x ≡ added)
grown_from true points added x a = among_insert_or x points _ added a
grown_from false points added x a = inl a

one_more : {X : Type 0} (most : ℕ) (xs : List X) (x : X) → nat_le most (length xs) ≡ false → length (xs ++ x ∷ []) ≤ most
one_more most xs x h = let e = length-append xs (x ∷ []) in grind (arith, nat_tests)

place_keeps : (contents : Contents) (stop : Text) (change : ℕ) (name : Text) → IsWellContents contents → has_place contents stop ≡ false → nat_le 5000 (length contents.places) ≡ false → 1 ≤ change → change ≤ 7200
    → IsWellContents (grown contents (lines.Place stop change name))
unfolding has_place
place_keeps contents stop change name w new room low high =
    let added : Point = new_point contents.region stop change in
    let place : Place = record { stop = stop; change = change; name = name } in
    let still = points_grow (is_exchange stop) contents added in
    let other : (x : Place) → Among x contents.places → x.stop ≡ stop → ⊥ = λ x a e.
    true≢false (sym (is_same stop x.stop (sym e)) ∙ any_false (λ (p : Place). same stop p.stop) x contents.places new a) in
    record {
      services = w.services;
      times = w.times;
      calls = λ journey a call b. call_stays contents (grown contents (lines.Place stop change name)) call refl (λ p q. among_left p contents.places (place ∷ []) q) still (w.calls journey a call b);
      changes = λ p a. elim (among_push p contents.places place a) [
        | inl b ↦ w.changes p b
        | inr e ↦ subst (λ (q : Place). (1 ≤ q.change) × (q.change ≤ 7200)) (sym e) (low, high)
      ];
      one_each = λ x y a b e. elim (among_push x contents.places place a) [
        | inl ax ↦ elim (among_push y contents.places place b) [
          | inl ay ↦ w.one_each x y ax ay e
          | inr ey ↦ absurd (other x ax (e ∙ ap (λ (q : Place). q.stop) ey))
        ]
        | inr ex ↦ elim (among_push y contents.places place b) [
          | inl ay ↦ absurd (other y ay (sym e ∙ ap (λ (q : Place). q.stop) ex))
          | inr ey ↦ ex ∙ sym ey
        ]
      ];
      shared = λ p a s. elim (among_push p contents.places place a) [
        | inl b ↦ let point = w.shared p b s in let kept = still point.0 point.1 in (kept.0, kept.1, (kept.2 ∙ point.2.0, kept.3 ∙ point.2.1))
        | inr e ↦
            let at : p.stop ≡ stop = ap (λ (q : Place). q.stop) e in
            (added, added_stands (is_exchange stop) contents.points added (ap is_exchange (sym at) ∙ s), (sym at, sym (ap (λ (q : Place). q.change) e)))
      ];
      placed = λ point a. elim (grown_from (is_exchange stop) contents.points added point a) [
        | inl b ↦ let p = w.placed point b in (p.0, among_left p.0 contents.places (place ∷ []) p.1, p.2)
        | inr e ↦ (place, among_last contents.places place, (ap (λ (q : Point). q.stop) e, ap (λ (q : Point). q.change) e))
      ];
      dates = w.dates;
      labels = w.labels;
      few = record {
        places_few = one_more 5000 contents.places place room;
        services_few = w.few.services_few;
        journeys_few = w.few.journeys_few;
        calls_few = w.few.calls_few;
      };
    }

-- ---- a neighbour

-- among the points there is one of that reference and change time
abbrev HasAlike : List Point → Point → Type 0
HasAlike points x = (other : Point) × Among other points × (other.stop ≡ x.stop) × (other.change ≡ x.change)

alike : (x y : Point) → y ≡ x → (y.stop ≡ x.stop) × (y.change ≡ x.change)
alike x y e = (ap (λ (p : Point). p.stop) e, ap (λ (p : Point). p.change) e)

point_case : (b : Bool) (x point : Point) (more points : List Point) (neighbour : Neighbour) → Among x (point ∷ points) → (Among x points → HasAlike more x)
    → HasAlike (cond b (point_with point neighbour ∷ points) (point ∷ more)) x
point_case true x point more points neighbour a next = elim a [
  | inl e ↦ let l = alike x point (sym e) in (point_with point neighbour, inl refl, l.0, l.1)
  | inr t ↦ (x, inr t, refl, refl)
]
point_case false x point more points neighbour a next = elim a [
  | inl e ↦ let l = alike x point (sym e) in (point, inl refl, l.0, l.1)
  | inr t ↦ let found = next t in (found.0, inr found.1, found.2, found.3)
]

points_still : (points : List Point) (stop : Text) (neighbour : Neighbour) (x : Point) → Among x points → HasAlike (points_with points stop neighbour) x
points_still [] stop neighbour x a = absurd a
points_still (point ∷ points) stop neighbour x a =
    point_case (same stop point.stop) x point (points_with points stop neighbour) points neighbour a (points_still points stop neighbour x)

only_case : (b : Bool) (x point : Point) (more points : List Point) (neighbour : Neighbour) → Among x (cond b (point_with point neighbour ∷ points) (point ∷ more))
    → (Among x more → HasAlike points x) → HasAlike (point ∷ points) x
only_case true x point more points neighbour a next = elim a [
  | inl e ↦ let l = alike x (point_with point neighbour) (sym e) in (point, inl refl, l.0, l.1)
  | inr t ↦ (x, inr t, refl, refl)
]
only_case false x point more points neighbour a next = elim a [
  | inl e ↦ let l = alike x point (sym e) in (point, inl refl, l.0, l.1)
  | inr t ↦ let found = next t in (found.0, inr found.1, found.2, found.3)
]

points_only : (points : List Point) (stop : Text) (neighbour : Neighbour) (x : Point) → Among x (points_with points stop neighbour) → HasAlike points x
points_only [] stop neighbour x a = absurd a
points_only (point ∷ points) stop neighbour x a =
    only_case (same stop point.stop) x point (points_with points stop neighbour) points neighbour a (points_only points stop neighbour x)

neighbour_keeps : (contents : Contents) (stop : Text) (neighbour : Neighbour) → IsWellContents contents → IsWellContents (grown contents (lines.Neighbour stop neighbour))
neighbour_keeps contents stop neighbour w =
    let still = points_still contents.points stop neighbour in
    record {
      services = w.services;
      times = w.times;
      calls = λ journey a call b. call_stays contents (grown contents (lines.Neighbour stop neighbour)) call refl (λ p q. q) still (w.calls journey a call b);
      changes = w.changes;
      one_each = w.one_each;
      shared = λ p a s. let point = w.shared p a s in let kept = still point.0 point.1 in (kept.0, kept.1, (kept.2 ∙ point.2.0, kept.3 ∙ point.2.1));
      placed = λ x a.
          let from = points_only contents.points stop neighbour x a in
          let p = w.placed from.0 from.1 in
          (p.0, p.1, (sym from.2 ∙ p.2.0, sym from.3 ∙ p.2.1));
      dates = w.dates;
      labels = w.labels;
      few = w.few;
    }

-- ---- a service

service_keeps : (contents : Contents) (id : Text) (dates : Dates) → IsWellContents contents → AreDays dates.first dates.last dates.marks → nat_le 1000 (length contents.services) ≡ false
    → IsWellContents (grown contents (lines.Service id dates))
service_keeps contents id dates w days room =
    let service : Service = record { id = id; first = dates.first; last = dates.last; marks = dates.marks } in
    record {
      services = λ journey a. omega (arith, w.services journey a, length-append contents.services (service ∷ []));
      times = w.times;
      calls = λ journey a call b. call_stays contents (grown contents (lines.Service id dates)) call refl (λ p q. q) (no_change contents) (w.calls journey a call b);
      changes = w.changes;
      one_each = w.one_each;
      shared = w.shared;
      placed = w.placed;
      dates = λ x a. elim (among_push x contents.services service a) [
        | inl b ↦ w.dates x b
        | inr e ↦ subst (λ (y : Service). AreDays y.first y.last y.marks) (sym e) days
      ];
      labels = w.labels;
      few = record {
        places_few = w.few.places_few;
        services_few = one_more 1000 contents.services service room;
        journeys_few = w.few.journeys_few;
        calls_few = w.few.calls_few;
      };
    }

-- ---- a journey

not_false : (b : Bool) → not b ≡ false → b ≡ true
not_false true h = refl
not_false false h = absurd (true≢false h)

labels_push : (journeys : List Journey) (journey : Journey) → HaveOwnLabels journeys → ((other : Journey) → Among other journeys → other.id ≢ journey.id) → HaveOwnLabels (journeys ++ journey ∷ [])
labels_push [] journey h new = (tt, tt)
labels_push (j ∷ js) journey h new =
    (each_push (λ (other : Journey). j.id ≢ other.id) js journey h.0 (new j (inl refl)), labels_push js journey h.1 (λ other a. new other (inr a)))

calls_push : (journeys : List Journey) (journey : Journey) → journey.calls ≡ [] → calls_of (journeys ++ journey ∷ []) ≡ calls_of journeys
calls_push journeys journey e = let n : length journey.calls ≡ 0 = ap length e in omega (arith, n, sum_by_push (λ (j : Journey). length j.calls) journeys journey)

journey_keeps : (contents : Contents) (id service line : Text) → IsWellContents contents → has_service contents service ≡ true → has_journey contents id ≡ false
    → nat_le 20000 (length contents.journeys) ≡ false → IsWellContents (grown contents (lines.Journey id service line))
unfolding has_service service_number has_journey
journey_keeps contents id service line w known new room =
    let number : ℕ = unwrap_or (service_number contents service) 0 in
    let journey : Journey = record { id = id; line = line; service = number; calls = [] } in
    let within : number < length contents.services = place_within (λ (s : Service). same service s.id) contents.services known in
    record {
      services = λ j a. elim (among_push j contents.journeys journey a) [
        | inl b ↦ w.services j b
        | inr e ↦ subst (λ (k : Journey). k.service < length contents.services) (sym e) within
      ];
      times = λ j a. elim (among_push j contents.journeys journey a) [ inl b ↦ w.times j b | inr e ↦ subst (λ (k : Journey). NoneFalls 0 k.calls) (sym e) tt ];
      calls = λ j a call b. elim (among_push j contents.journeys journey a) [
        | inl c ↦ call_stays contents (grown contents (lines.Journey id service line)) call refl (λ p q. q) (no_change contents) (w.calls j c call b)
        | inr e ↦ absurd (subst (λ (k : Journey). Among call k.calls) e b)
      ];
      changes = w.changes;
      one_each = w.one_each;
      shared = w.shared;
      placed = w.placed;
      dates = w.dates;
      labels = labels_push contents.journeys journey w.labels (λ other a e.
          true≢false (sym (is_same id other.id (sym e)) ∙ any_false (λ (j : Journey). same id j.id) other contents.journeys new a));
      few = record {
        places_few = w.few.places_few;
        services_few = w.few.services_few;
        journeys_few = one_more 20000 contents.journeys journey room;
        calls_few = omega (arith, calls_push contents.journeys journey refl, w.few.calls_few);
      };
    }

come_new : (journeys : List Journey) (journey : Journey) (time : ℕ) → last_time 0 journey.calls ≡ time → HasCome (journeys ++ journey ∷ []) time
come_new [] journey time e = e
come_new (j ∷ []) journey time e = e
come_new (j ∷ next ∷ more) journey time e = come_new (next ∷ more) journey time e

-- ---- a call

falls_push : (t : ℕ) (calls : List Call) (call : Call) → NoneFalls t calls → NotBefore (last_time t calls) call.arrives → NotBefore (latest (last_time t calls) call.arrives) call.departs
    → NoneFalls t (calls ++ call ∷ [])
falls_push t [] call h a d = (a, d, tt)
falls_push t (c ∷ calls) call h a d = (h.0, h.1, falls_push (latest (latest t c.arrives) c.departs) calls call h.2 a d)

last_push : (t : ℕ) (calls : List Call) (call : Call) → last_time t (calls ++ call ∷ []) ≡ latest (latest (last_time t calls) call.arrives) call.departs
last_push t [] call = refl
last_push t (c ∷ calls) call = last_push (latest (latest t c.arrives) c.departs) calls call

abbrev longer : Journey → Call → Journey
longer journey call = record journey { calls = journey.calls ++ call ∷ [] }

-- a journey is one that stood, or the last with the call
among_with_call : (journeys : List Journey) (call : Call) (x : Journey) (time : ℕ) → HasCome journeys time → Among x (with_call journeys call)
    → Among x journeys ⊎ ((j : Journey) × Among j journeys × (last_time 0 j.calls ≡ time) × (x ≡ longer j call))
among_with_call [] call x time h a = absurd a
among_with_call (j ∷ []) call x time h a = elim a [ inl e ↦ inr (j, inl refl, h, e) | inr t ↦ absurd t ]
among_with_call (j ∷ next ∷ more) call x time h a = elim a [
  | inl e ↦ inl (inl e)
  | inr t ↦ elim (among_with_call (next ∷ more) call x time h t) [ inl u ↦ inl (inr u) | inr k ↦ inr (k.0, inr k.1, k.2, k.3) ]
]

come_with_call : (journeys : List Journey) (call : Call) (time later : ℕ) → HasCome journeys time → latest (latest time call.arrives) call.departs ≡ later → HasCome (with_call journeys call) later
come_with_call [] call time later h e = tt
come_with_call (j ∷ []) call time later h e = last_push 0 j.calls call ∙ (ap (λ (t : ℕ). latest (latest t call.arrives) call.departs) h ∙ e)
come_with_call (j ∷ next ∷ []) call time later h e = come_with_call (next ∷ []) call time later h e
come_with_call (j ∷ next ∷ third ∷ more) call time later h e = come_with_call (next ∷ third ∷ more) call time later h e

each_with_call : (P : Text → Type 0) (journeys : List Journey) (call : Call) → Each (λ (other : Journey). P other.id) journeys
    → Each (λ (other : Journey). P other.id) (with_call journeys call)
each_with_call P [] call h = h
each_with_call P (j ∷ []) call h = h
each_with_call P (j ∷ next ∷ more) call h = (h.0, each_with_call P (next ∷ more) call h.1)

labels_with_call : (journeys : List Journey) (call : Call) → HaveOwnLabels journeys → HaveOwnLabels (with_call journeys call)
labels_with_call [] call h = h
labels_with_call (j ∷ []) call h = h
labels_with_call (j ∷ next ∷ more) call h = (each_with_call (λ (id : Text). j.id ≢ id) (next ∷ more) call h.0, labels_with_call (next ∷ more) call h.1)

as_many_with_call : (journeys : List Journey) (call : Call) → length (with_call journeys call) ≡ length journeys
as_many_with_call [] call = refl
as_many_with_call (j ∷ []) call = refl
as_many_with_call (j ∷ next ∷ more) call = let r = as_many_with_call (next ∷ more) call in omega (arith, r)

calls_with_call : (journeys : List Journey) (call : Call) → calls_of (with_call journeys call) ≤ calls_of journeys + 1
calls_with_call [] call = omega arith
calls_with_call (j ∷ []) call = omega (arith, length-append j.calls (call ∷ []))
calls_with_call (j ∷ next ∷ more) call =
    let count : Journey → ℕ = λ k. length k.calls in
    let r = calls_with_call (next ∷ more) call in
    omega (arith, r, sum_by-cons count j (with_call (next ∷ more) call), sum_by-cons count j (next ∷ more))

calls_few_with : (journeys : List Journey) (call : Call) → nat_le 100000 (calls_of journeys) ≡ false → calls_of (with_call journeys call) ≤ 100000
calls_few_with journeys call h = let r = calls_with_call journeys call in grind (arith, nat_tests)

not_before : (t : ℕ) (time : Option ℕ) → is_before t time ≡ false → NotBefore t time
not_before t None h = tt
not_before t (Some u) h = grind (arith, nat_tests)

later_is : (t : ℕ) (time : Option ℕ) → later_of t time ≡ latest t time
later_is t None = refl
later_is t (Some u) = refl

own_or_shared : (b : Bool) (stop : Text) (region : Text) → is_exchange stop ≡ b → not b && not (same (code_part stop) region) ≡ false → (b ≡ true) ⊎ (home stop ≡ Some region)
unfolding home
own_or_shared true stop region e h = inl refl
own_or_shared false stop region e h =
    inr (ap (λ (c : Bool). cond c None (Some (code_part stop))) e ∙ ap Some (same_is (code_part stop) region (not_false _ h)))

call_well : (contents : Contents) (call : Call) → IsWellContents contents → is_stop_elsewhere contents.region call.stop ≡ false → has_place contents call.stop ≡ true
    → IsOffset call.arrives → IsOffset call.departs → IsWellCall (timetable_of contents []) call
unfolding has_place
call_well contents call w own known arrives departs =
    let found = any_true (λ (p : Place). same call.stop p.stop) contents.places known in
    let at : found.0.stop ≡ call.stop = sym (same_is call.stop found.0.stop found.2) in
    record {
      place = found.0;
      is_place = found.1;
      at = at;
      of_region = elim (own_or_shared (is_exchange call.stop) call.stop contents.region refl own) [
        | inl e ↦ let point = w.shared found.0 found.1 (ap is_exchange at ∙ e) in inr (point.0, point.1, point.2.0 ∙ at)
        | inr e ↦ inl e
      ];
      arrives = arrives;
      departs = departs;
    }

call_keeps : (contents : Contents) (call : Call) (time : ℕ) → IsWellContents contents → HasCome contents.journeys time → falls_from time call ≡ false → IsWellCall (timetable_of contents []) call
    → nat_le 100000 (calls_of contents.journeys) ≡ false → IsWellContents (grown contents (lines.Call call))
call_keeps contents call time w come falls good room =
    let both = or_false (is_before time call.arrives) (is_before (later_of time call.arrives) call.departs) falls in
    let arrives = not_before time call.arrives both.0 in
    let departs = subst (λ (t : ℕ). NotBefore t call.departs) (later_is time call.arrives) (not_before (later_of time call.arrives) call.departs both.1) in
    let stay : (c : Call) → IsWellCall (timetable_of contents []) c → IsWellCall (timetable_of (grown contents (lines.Call call)) []) c =
    λ c g. call_stays contents (grown contents (lines.Call call)) c refl (λ p q. q) (no_change contents) g in
    record {
      services = λ x a. elim (among_with_call contents.journeys call x time come a) [
        | inl b ↦ w.services x b
        | inr k ↦ subst (λ (j : Journey). j.service < length contents.services) (sym k.3) (w.services k.0 k.1)
      ];
      times = λ x a. elim (among_with_call contents.journeys call x time come a) [
        | inl b ↦ w.times x b
        | inr k ↦ subst (λ (j : Journey). NoneFalls 0 j.calls) (sym k.3) (falls_push 0 k.0.calls call (w.times k.0 k.1)
            (subst (λ (t : ℕ). NotBefore t call.arrives) (sym k.2) arrives) (subst (λ (t : ℕ). NotBefore (latest t call.arrives) call.departs) (sym k.2) departs))
      ];
      calls = λ x a c b. elim (among_with_call contents.journeys call x time come a) [
        | inl d ↦ stay c (w.calls x d c b)
        | inr k ↦ elim (among_push c k.0.calls call (subst (λ (j : Journey). Among c j.calls) k.3 b)) [
          | inl d ↦ stay c (w.calls k.0 k.1 c d)
          | inr e ↦ stay c (subst (λ (one : Call). IsWellCall (timetable_of contents []) one) (sym e) good)
        ]
      ];
      changes = w.changes;
      one_each = w.one_each;
      shared = w.shared;
      placed = w.placed;
      dates = w.dates;
      labels = labels_with_call contents.journeys call w.labels;
      few = record {
        places_few = w.few.places_few;
        services_few = w.few.services_few;
        journeys_few = omega (arith, as_many_with_call contents.journeys call, w.few.journeys_few);
        calls_few = calls_few_with contents.journeys call room;
      };
    }

-- ---- all lines

open_come : (left : Open) (call : Call) (journeys : List Journey) → GoesOnFrom left call → EndsOpen left journeys → HasCome journeys (departed left)
open_come Nothing call journeys o e = absurd o
open_come Begun call journeys o e = e
open_come (Since d) call journeys o e = e

ends_call : (call : Call) (departs : Option ℕ) (journeys : List Journey) (time : ℕ) → HasCome journeys time → call.departs ≡ departs → EndsOpen (left_by departs) (with_call journeys call)
ends_call call None journeys time h e = tt
ends_call call (Some d) journeys time h e = come_with_call journeys call time d h (ap (latest (latest time call.arrives)) e)

-- before any journey the region may be named
region_keeps : (contents : Contents) (code : Text) → IsWellContents contents → contents.journeys ≡ [] → IsWellContents (grown contents (lines.Region code))
region_keeps contents code w e = record {
  services = w.services;
  times = w.times;
  calls = λ journey a call b. absurd (subst (Among journey) e a);
  changes = w.changes;
  one_each = w.one_each;
  shared = w.shared;
  placed = w.placed;
  dates = w.dates;
  labels = w.labels;
  few = w.few;
}

zone_keeps : (contents : Contents) (zone : Zone) → IsWellContents contents → IsWellContents (grown contents (lines.Zone zone))
zone_keeps contents zone w = record {
  services = w.services;
  times = w.times;
  calls = λ journey a call b. call_stays contents (grown contents (lines.Zone zone)) call refl (λ p q. q) (no_change contents) (w.calls journey a call b);
  changes = w.changes;
  one_each = w.one_each;
  shared = w.shared;
  placed = w.placed;
  dates = w.dates;
  labels = w.labels;
  few = w.few;
}

-- a line that passes keeps the contents well
line_keeps : (above : Above) (line : Line) → IsWellSoFar above → IsWellLine above.lines line → MayStand above.left line → Passes above.contents above.left line
    → IsWellContents (grown above.contents line)
unfolding is_doubled is_foreign lacks_stop lacks_service is_falling is_full calls_in
line_keeps above lines.Header w l o p = w.well
line_keeps above (lines.Region code) w l o p = region_keeps above.contents code w.well (w.fresh (omega (arith, l.0)))
line_keeps above (lines.Zone zone) w l o p = zone_keeps above.contents zone w.well
line_keeps above (lines.Place stop change name) w l o p = place_keeps above.contents stop change name w.well p.new (or_false _ _ p.room).0 l.1 l.2
line_keeps above (lines.Neighbour stop neighbour) w l o p = neighbour_keeps above.contents stop neighbour w.well
line_keeps above (lines.Service id dates) w l o p = service_keeps above.contents id dates w.well l.1 p.room
line_keeps above (lines.Journey id service line) w l o p = journey_keeps above.contents id service line w.well (not_false _ p.service) p.new p.room
line_keeps above (lines.Call call) w l o p =
    call_keeps above.contents call (departed above.left) w.well (open_come above.left call above.contents.journeys o w.ends) p.times
    (call_well above.contents call w.well p.own (not_false _ p.stop) l.1 l.2) p.room

-- and what it leaves open is where the last journey ends
line_ends : (above : Above) (line : Line) → IsWellSoFar above → MayStand above.left line → EndsOpen (left_open line) (grown above.contents line).journeys
line_ends above lines.Header w o = tt
line_ends above (lines.Region code) w o = tt
line_ends above (lines.Zone zone) w o = tt
line_ends above (lines.Place stop change name) w o = tt
line_ends above (lines.Neighbour stop neighbour) w o = tt
line_ends above (lines.Service id dates) w o = tt
line_ends above (lines.Journey id service line) w o = come_new above.contents.journeys _ 0 refl
line_ends above (lines.Call call) w o = ends_call call call.departs above.contents.journeys (departed above.left) (open_come above.left call above.contents.journeys o w.ends) refl

-- ---- whole journeys

pub closed_whole : (left : Open) (journeys : List Journey) → is_closed left ≡ true → AreWholeBut left journeys → AreWholeBut Nothing journeys
closed_whole Nothing journeys e h = h
closed_whole Begun journeys e h = absurd (true≢false (sym e))
closed_whole (Since d) journeys e h = absurd (true≢false (sym e))

whole_new : (journeys : List Journey) (journey : Journey) → AreWholeBut Nothing journeys → journey.calls ≡ [] → AreWholeBut Begun (journeys ++ journey ∷ [])
whole_new [] journey h e = e
whole_new (j ∷ []) journey h e = (h, e)
whole_new (j ∷ next ∷ more) journey h e = (h.0, whole_new (next ∷ more) journey h.1 e)

go_to_end : (calls : List Call) (call : Call) → Each (λ (c : Call). IsSome c.arrives × IsSome c.departs) calls → IsSome call.arrives → call.departs ≡ None → GoToEnd (calls ++ call ∷ [])
go_to_end [] call h a d = (a, d)
go_to_end (c ∷ []) call h a d = (h.0.0, h.0.1, (a, d))
go_to_end (c ∷ next ∷ more) call h a d = (h.0.0, h.0.1, go_to_end (next ∷ more) call h.1 a d)

goes_to_end : (calls : List Call) (call : Call) → AreBegun calls → IsSome call.arrives → call.departs ≡ None → AreWhole (calls ++ call ∷ [])
goes_to_end [] call h a d = absurd h
goes_to_end (c ∷ calls) call h a d = (h.0, h.1, go_to_end calls call h.2 a d)

goes_further : (calls : List Call) (call : Call) → AreBegun calls → IsSome call.arrives → IsSome call.departs → AreBegun (calls ++ call ∷ [])
goes_further [] call h a d = absurd h
goes_further (c ∷ calls) call h a d = (h.0, h.1, each_push (λ (next : Call). IsSome next.arrives × IsSome next.departs) calls call h.2 (a, d))

stands_with : (left : Open) (departs : Option ℕ) (calls : List Call) (call : Call) → call.departs ≡ departs → GoesOnFrom left call → StandOpen left calls
    → StandOpen (left_by departs) (calls ++ call ∷ [])
stands_with Nothing departs calls call e g h = absurd g
stands_with Begun None calls call e g h = absurd (true≢false (sym (subst (λ (d : Option ℕ). IsSome d) e g.1)))
stands_with Begun (Some d) calls call e g h = subst (λ (cs : List Call). AreBegun (cs ++ call ∷ [])) (sym h) (g.0, g.1, tt)
stands_with (Since t) None calls call e g h = goes_to_end calls call h g e
stands_with (Since t) (Some d) calls call e g h = goes_further calls call h g (subst (λ (o : Option ℕ). IsSome o) (sym e) refl)

whole_with_call : (left : Open) (journeys : List Journey) (call : Call) → GoesOnFrom left call → AreWholeBut left journeys → AreWholeBut (left_by call.departs) (with_call journeys call)
whole_with_call left [] call g h = tt
whole_with_call left (j ∷ []) call g h = stands_with left call.departs j.calls call refl g h
whole_with_call left (j ∷ next ∷ []) call g h = (h.0, whole_with_call left (next ∷ []) call g h.1)
whole_with_call left (j ∷ next ∷ third ∷ more) call g h = (h.0, whole_with_call left (next ∷ third ∷ more) call g h.1)

-- each journey is whole, but that the last may stand open
line_whole : (above : Above) (line : Line) → IsWellSoFar above → IsWellLine above.lines line → MayStand above.left line → AreWholeBut (left_open line) (grown above.contents line).journeys
line_whole above lines.Header w l o = subst (AreWholeBut Nothing) (sym (w.fresh (omega (arith, l)))) tt
line_whole above (lines.Region code) w l o = subst (AreWholeBut Nothing) (sym (w.fresh (omega (arith, l.0)))) tt
line_whole above (lines.Zone zone) w l o = subst (AreWholeBut Nothing) (sym (w.fresh (omega (arith, l.0)))) tt
line_whole above (lines.Place stop change name) w l o = closed_whole above.left above.contents.journeys o w.whole
line_whole above (lines.Neighbour stop neighbour) w l o = closed_whole above.left above.contents.journeys o w.whole
line_whole above (lines.Service id dates) w l o = closed_whole above.left above.contents.journeys o w.whole
line_whole above (lines.Journey id service line) w l o = whole_new above.contents.journeys _ (closed_whole above.left above.contents.journeys o w.whole) refl
line_whole above (lines.Call call) w l o = whole_with_call above.left above.contents.journeys call o w.whole

line_fresh : (above : Above) (line : Line) → IsWellSoFar above → IsWellLine above.lines line → above.lines + 1 < 3 → (grown above.contents line).journeys ≡ []
line_fresh above lines.Header w l h = w.fresh (omega arith)
line_fresh above (lines.Region code) w l h = w.fresh (omega arith)
line_fresh above (lines.Zone zone) w l h = w.fresh (omega arith)
line_fresh above (lines.Place stop change name) w l h = w.fresh (omega arith)
line_fresh above (lines.Neighbour stop neighbour) w l h = w.fresh (omega arith)
line_fresh above (lines.Service id dates) w l h = w.fresh (omega arith)
line_fresh above (lines.Journey id service line) w l h = absurd (omega (arith, l, h))
line_fresh above (lines.Call call) w l h = absurd (omega (arith, l.0, h))

pub line_keeps_well : (above : Above) (text : Text) (line : Line) → IsWellSoFar above → IsWellLine above.lines line → MayStand above.left line → Passes above.contents above.left line
    → IsWellSoFar (after_line above text line)
line_keeps_well above text line w l o p = record {
  well = line_keeps above line w l o p;
  ends = line_ends above line w o;
  whole = line_whole above line w l o;
  fresh = line_fresh above line w l;
}

-- ---- a timetable that was read

noon_in : (noons : List ℕ) (day : ℕ) → length noons ≡ operating_days → day ≤ LAST_DAY → day < FIRST_DAY + length noons
noon_in noons day e h = omega (arith, e)

whole_each : (journeys : List Journey) → AreWholeBut Nothing journeys → (journey : Journey) → Among journey journeys → AreWhole journey.calls
whole_each [] h journey a = absurd a
whole_each (j ∷ []) h journey a = elim a [ inl e ↦ subst (λ (k : Journey). AreWhole k.calls) (sym e) h | inr t ↦ absurd t ]
whole_each (j ∷ next ∷ more) h journey a = elim a [
  | inl e ↦ subst (λ (k : Journey). AreWhole k.calls) (sym e) h.0
  | inr t ↦ whole_each (next ∷ more) h.1 journey t
]

pub table_is_well : (contents : Contents) (noons : List ℕ) → IsWellContents contents → AreWholeBut Nothing contents.journeys → AreWellPoints contents.region contents.points → length noons ≡ operating_days → AreNear noons → IsWell (timetable_of contents noons)
table_is_well contents noons w whole points days near = record {
  services = w.services;
  dates = w.dates;
  labels = w.labels;
  shape = whole_each contents.journeys whole;
  times = w.times;
  calls = λ journey a call b. let c = w.calls journey a call b in record {
    place = c.place;
    is_place = c.is_place;
    at = c.at;
    of_region = c.of_region;
    arrives = c.arrives;
    departs = c.departs;
  };
  changes = w.changes;
  one_each = w.one_each;
  points = points;
  shared = w.shared;
  placed = w.placed;
  few = w.few;
  days = days;
  noons_low = λ day from to. near.low day from (noon_in noons day days to);
  noons_high = λ day from to. near.high day from (noon_in noons day days to);
}

-- nothing is well
pub none_is_well : IsWellSoFar no_lines
none_is_well = record {
  well = record {
    services = λ journey a. absurd a;
    times = λ journey a. absurd a;
    calls = λ journey a call b. absurd a;
    changes = λ place a. absurd a;
    one_each = λ x y a b e. absurd a;
    shared = λ place a e. absurd a;
    placed = λ point a. absurd a;
    dates = λ service a. absurd a;
    labels = tt;
    few = record { places_few = lit≤ tt; services_few = lit≤ tt; journeys_few = lit≤ tt; calls_few = lit≤ tt };
  };
  ends = tt;
  whole = tt;
  fresh = λ h. refl;
}

-- ---- what is kept of the lines above

named_line : (above : Above) (line : Line) → (2 ≤ above.lines → 0 < length above.contents.region) → IsWellLine above.lines line → 2 ≤ above.lines + 1 → 0 < length (grown above.contents line).region
named_line above lines.Header w l h = absurd (omega (arith, l, h))
named_line above (lines.Region code) w l h = l.1
named_line above (lines.Zone zone) w l h = w (omega (arith, l.0))
named_line above (lines.Place stop change name) w l h = w (omega (arith, l.0))
named_line above (lines.Neighbour stop neighbour) w l h = w (omega (arith, l.0))
named_line above (lines.Service id dates) w l h = w (omega (arith, l.0))
named_line above (lines.Journey id service line) w l h = w (omega (arith, l))
named_line above (lines.Call call) w l h = w (omega (arith, l.0))

zone_line : (above : Above) (line : Line) → IsZone above.contents.zone → IsWellLine above.lines line → IsZone (grown above.contents line).zone
zone_line above lines.Header w l = w
zone_line above (lines.Region code) w l = w
zone_line above (lines.Zone zone) w l = l.1
zone_line above (lines.Place stop change name) w l = w
zone_line above (lines.Neighbour stop neighbour) w l = w
zone_line above (lines.Service id dates) w l = w
zone_line above (lines.Journey id service line) w l = w
zone_line above (lines.Call call) w l = w

-- a line that passes keeps the lines above well
pub above_keeps : (above : Above) (text : Text) (line : Line) → IsWellAbove above → IsWellLine above.lines line → MayStand above.left line → Passes above.contents above.left line
    → above.bytes + length text ≤ BYTES → IsWellAbove (after_line above text line)
above_keeps above text line w l o p b = record {
  named = named_line above line w.named l;
  zone = zone_line above line w.zone l;
  bytes = b;
  so_far = line_keeps_well above text line w.so_far l o p;
}
