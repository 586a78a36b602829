-- Which legs are rides, and which rides in a row are a journey.
use Rattle.std.proofs.Common.{◌≡◌, ◌≢◌, ℕ, zero, suc, ◌+◌, ◌<◌, ◌≤◌, Bool, true, false, cond, List, [], ◌∷◌, Some, None, length, drop, refl, sym, ◌∙◌, ap, subst, arith, slice_get, inl, inr, true≢false}
use Rattle.std.specs.Prelude.{IsTrue, MatchBool, Option, find, option_map, position, unwrap_or}
use Rattle.std.proofs.Math.Nat.{eq-or-lt_of_le}
use Rattle.std.proofs.lemmas.Bool.{cases_lt}
use Rattle.std.proofs.lemmas.List.Quantifiers.{position-Some}
use Rattle.std.proofs.lemmas.Option.{get_or_from_slice_get, none-some, same_Some, slice_get_within}
use Rattle.ojp_values.specs.Lists.{Among}
use Rattle.ojp_values.specs.Texts.{Text, same}
use Rattle.ojp_values.specs.declared.trips.Leg.{Leg}
use Rattle.ojp_values.proofs.EachFacts.{up_to}
use Rattle.ojp_timetable.specs.Tables.{Journey, Place, Timetable, name_of, place_of}
use Rattle.ojp_timetable.specs.declared.calls.Call.{Call}
use Rattle.ojp_timetable.specs.Runs.{IsLeg, IsWell, IsWellCall, RunsOn, day_long, moment}
use Rattle.ojp_timetable.specs.Legal.{AlightsBehind, AreOffsets, Boards, GoesOnBy, HasNames, IsFirstBoard}
use Rattle.ojp_timetable.specs.Journeys.{AllFollow, Follows, IsAt, Regional, alighted, reached}
use Rattle.ojp_timetable.proofs.PointFacts.{none_passes}
use Rattle.ojp_timetable.proofs.ReadFacts.{among_at, at_among, one_number, read_at, read_once}
use Rattle.ojp_timetable.proofs.TextFacts.{is_same, same_is}

-- one call more was looked at
pub looked : (P : Call → Type 0) (calls : List Call) (n : ℕ) (at : Call) → slice_get calls n ≡ Some at → (P at → ⊥) → (k : ℕ) (other : Call) → slice_get calls k ≡ Some other → k < n + 1
    → (k < n → P other → ⊥) → P other → ⊥
looked P calls n at read none k other a l before p = elim (eq-or-lt_of_le (up_to k n l)) [
  | inl e ↦ none (subst P (read_once calls k n other at e a read) p)
  | inr m ↦ before m p
]

pub offsets : (table : Timetable) (journey : Journey) → IsWell table → Among journey table.journeys → AreOffsets journey.calls
offsets table journey well a k call at =
    let good = well.calls journey a call (among_at journey.calls k call at) in
    (good.arrives, good.departs)

-- ---- a ride

journey_found : (journeys : List Journey) (id : Text) (n : ℕ) (journey : Journey) → position (λ (j : Journey). same id j.id) journeys ≡ Some n → slice_get journeys n ≡ Some journey → journey.id ≡ id
journey_found journeys id n journey e at =
    let found = position-Some (λ (j : Journey). same id j.id) journeys n journey e in
    sym (same_is id journey.id (subst (λ (j : Journey). same id j.id ≡ true) (get_or_from_slice_get journeys n journey journey at) found.1))

journey_lacks : (journeys : List Journey) (id : Text) (journey : Journey) → position (λ (j : Journey). same id j.id) journeys ≡ None → Among journey journeys → journey.id ≡ id → ⊥
journey_lacks journeys id journey e a is =
    let at = at_among journeys journey a in
    let passes = none_passes (λ (j : Journey). same id j.id) journeys e at.0 journey (slice_get_within journeys at.0 journey at.1) in
    let not : same id journey.id ≡ false = subst (λ (j : Journey). same id j.id ≡ false) (get_or_from_slice_get journeys at.0 journey journey at.1) passes in
    true≢false (sym (is_same id journey.id (sym is)) ∙ not)

pub no_journey_of : (table : Timetable) (leg : Leg) → position (λ (j : Journey). same leg.journey j.id) table.journeys ≡ None → IsLeg table leg → ⊥
no_journey_of table leg e is = journey_lacks table.journeys leg.journey is.journey e is.of_table (sym (ap (λ (l : Leg). l.journey) is.is))

-- the journey of a ride is that of its label
pub its_journey : (table : Timetable) (leg : Leg) (n : ℕ) (journey : Journey) → IsWell table → position (λ (j : Journey). same leg.journey j.id) table.journeys ≡ Some n → slice_get table.journeys n ≡ Some journey
    → (is : IsLeg table leg) → is.journey ≡ journey
its_journey table leg n journey well e at is =
    let number = at_among table.journeys is.journey is.of_table in
    let id : is.journey.id ≡ journey.id = sym (ap (λ (l : Leg). l.journey) is.is) ∙ sym (journey_found table.journeys leg.journey n journey e at) in
    read_once table.journeys number.0 n is.journey journey (one_number table.journeys number.0 n is.journey journey well.labels number.1 at id) number.1 at

pub boards_there : (table : Timetable) (leg : Leg) (journey : Journey) (is : IsLeg table leg) → is.journey ≡ journey → (k : ℕ) × (call : Call) × (slice_get journey.calls k ≡ Some call) × Boards table leg call × (k ≡ is.i)
boards_there table leg journey is e = (
  is.i,
  is.board,
  ap (λ (j : Journey). slice_get j.calls is.i) (sym e) ∙ is.board_at,
  record {
    stop = sym (ap (λ (l : Leg). l.board) is.is);
    leaves = is.leaves;
    leaves_at = is.leaves_at;
    departs = ap (λ (d : ℕ). moment table d is.leaves) (ap (λ (l : Leg). l.day) is.is) ∙ sym (ap (λ (l : Leg). l.departs) is.is);
  },
  refl,
)

pub alights_there : (table : Timetable) (leg : Leg) (journey : Journey) (from : ℕ) (is : IsLeg table leg) → is.journey ≡ journey → from ≤ is.i → AlightsBehind table leg journey.calls from
alights_there table leg journey from is e low = record {
  number = is.j;
  behind = omega (arith, low, is.later);
  call = is.alight;
  at = ap (λ (j : Journey). slice_get j.calls is.j) (sym e) ∙ is.alight_at;
  alights = record {
    stop = sym (ap (λ (l : Leg). l.alight) is.is);
    comes = is.comes;
    comes_at = is.comes_at;
    arrives = ap (λ (d : ℕ). moment table d is.comes) (ap (λ (l : Leg). l.day) is.is) ∙ sym (ap (λ (l : Leg). l.arrives) is.is);
  };
}

-- the first call where it may board is not behind its own
pub first_low : (table : Timetable) (leg : Leg) (calls : List Call) (i k : ℕ) (call : Call) → IsFirstBoard table leg calls i → slice_get calls k ≡ Some call → Boards table leg call → i ≤ k
first_low table leg calls i k call first at boards = elim (cases_lt k i) [ inl l ↦ absurd (first.before k call at l boards) | inr g ↦ g ]

pub makes_leg : (table : Timetable) (leg : Leg) (journey : Journey) (n i : ℕ) → position (λ (j : Journey). same leg.journey j.id) table.journeys ≡ Some n → slice_get table.journeys n ≡ Some journey
    → leg.region ≡ table.region → leg.line ≡ journey.line → RunsOn table journey.service leg.day → HasNames table leg → IsFirstBoard table leg journey.calls i → AlightsBehind table leg journey.calls i → IsLeg table leg
makes_leg table leg journey n i e at region line runs names first behind =
    let id : journey.id ≡ leg.journey = journey_found table.journeys leg.journey n journey e at in
    let board : first.call.stop ≡ leg.board = first.boards.stop in
    let alight : behind.call.stop ≡ leg.alight = behind.alights.stop in
    let board_name : unwrap_or (name_of table first.call.stop) [] ≡ leg.board_name =
    ap (λ (s : Text). unwrap_or (name_of table s) []) board ∙ ap (λ (o : Option Text). unwrap_or o []) names.0 in
    let alight_name : unwrap_or (name_of table behind.call.stop) [] ≡ leg.alight_name =
    ap (λ (s : Text). unwrap_or (name_of table s) []) alight ∙ ap (λ (o : Option Text). unwrap_or o []) names.1 in
    record {
      journey = journey;
      day = leg.day;
      i = i;
      j = behind.number;
      board = first.call;
      alight = behind.call;
      leaves = first.boards.leaves;
      comes = behind.alights.comes;
      of_table = among_at table.journeys n journey at;
      runs = runs;
      later = behind.behind;
      board_at = first.at;
      alight_at = behind.at;
      leaves_at = first.boards.leaves_at;
      comes_at = behind.alights.comes_at;
      is = λ k. record {
        region = region k;
        journey = sym id k;
        line = line k;
        day = leg.day;
        board = sym board k;
        board_name = sym board_name k;
        departs = sym first.boards.departs k;
        alight = sym alight k;
        alight_name = sym alight_name k;
        arrives = sym behind.alights.arrives k;
      };
    }

-- ---- the names of a ride

found_case : (b : Bool) (x : Place) (rest : Option Place) → b ≡ true → cond b (Some x) rest ≡ Some x
found_case true x rest e = refl
found_case false x rest e = absurd (true≢false (sym e))

found_or : (b : Bool) (x : Place) (rest : Option Place) → (y : Place) × (rest ≡ Some y) → (y : Place) × (cond b (Some x) rest ≡ Some y)
found_or true x rest h = (x, refl)
found_or false x rest h = h

finds : (p : Place → Bool) (places : List Place) (x : Place) → Among x places → p x ≡ true → (y : Place) × (find p places ≡ Some y)
finds p [] x a e = absurd a
finds p (z ∷ places) x a e = elim a [
  | inl i ↦ (z, found_case (p z) z (find p places) (subst (λ (w : Place). p w ≡ true) i e))
  | inr t ↦ found_or (p z) z (find p places) (finds p places x t e)
]

named : (table : Timetable) (call : Call) (name : Text) → IsWellCall table call → unwrap_or (name_of table call.stop) [] ≡ name → name_of table call.stop ≡ Some name
unfolding place_of
named table call name good e =
    let found = finds (λ (place : Place). same call.stop place.stop) table.places good.place good.is_place (is_same call.stop good.place.stop (sym good.at)) in
    let is : name_of table call.stop ≡ Some found.0.name = ap (option_map (λ (place : Place). place.name)) found.1 in
    is ∙ ap Some (sym (ap (λ (o : Option Text). unwrap_or o []) is) ∙ e)

pub has_names : (table : Timetable) (leg : Leg) → IsWell table → IsLeg table leg → HasNames table leg
has_names table leg well is =
    let good : (k : ℕ) (call : Call) → slice_get is.journey.calls k ≡ Some call → IsWellCall table call = λ k call at. well.calls is.journey is.of_table call (among_at is.journey.calls k call at) in
    let board : is.board.stop ≡ leg.board = sym (ap (λ (l : Leg). l.board) is.is) in
    let alight : is.alight.stop ≡ leg.alight = sym (ap (λ (l : Leg). l.alight) is.is) in (
      subst (λ (s : Text). name_of table s ≡ Some leg.board_name) board (named table is.board leg.board_name (good is.i is.board is.board_at) (sym (ap (λ (l : Leg). l.board_name) is.is))),
      subst (λ (s : Text). name_of table s ≡ Some leg.alight_name) alight (named table is.alight leg.alight_name (good is.j is.alight is.alight_at) (sym (ap (λ (l : Leg). l.alight_name) is.is))),
    )

pub found_at : (journeys : List Journey) (id : Text) (n : ℕ) → position (λ (j : Journey). same id j.id) journeys ≡ Some n → (journey : Journey) × (slice_get journeys n ≡ Some journey)
found_at journeys id n e =
    let none : Journey = record { id = []; line = []; service = 0; calls = [] } in
    read_at journeys n (position-Some (λ (j : Journey). same id j.id) journeys n none e).0

-- ---- rides in a row

-- the legs may follow the last one, and lead to d at a
pub record GoesOn (table : Timetable) (last : Leg) (legs : List Leg) (d : Text) (a : ℕ) : Type 0 where
  pub follow : AllFollow (Follows table) (alighted last) legs
  pub ends : IsAt (reached (alighted last) legs) d a

-- the legs behind the first lead on
abbrev pub Rest : Timetable → List Leg → Text → ℕ → Type 0
Rest table [] d a = ⊥
Rest table (leg ∷ legs) d a = GoesOn table leg legs d a

-- the legs lead on from the first exactly where those behind one do from it
pub record IsWalked (table : Timetable) (legs : List Leg) (i : ℕ) : Type 0 where
  pub last : Leg
  pub at : slice_get legs i ≡ Some last
  pub on : (d : Text) (a : ℕ) → GoesOn table last (drop (i + 1) legs) d a → Rest table legs d a
  pub back : (d : Text) (a : ℕ) → Rest table legs d a → GoesOn table last (drop (i + 1) legs) d a

pub walked_none : (table : Timetable) (legs : List Leg) (first : Leg) → slice_get legs 0 ≡ Some first → IsWalked table legs 0
walked_none table [] first e = absurd (none-some first e)
walked_none table (leg ∷ legs) first e = record { last = leg; at = refl; on = λ d a h. h; back = λ d a h. h }

drop_at : (xs : List Leg) (k : ℕ) (x : Leg) → slice_get xs k ≡ Some x → drop k xs ≡ x ∷ drop (suc k) xs
drop_at [] k x e = absurd (none-some x e)
drop_at (y ∷ ys) zero x e = ap (λ (z : Leg). z ∷ ys) (same_Some y x e)
drop_at (y ∷ ys) (suc k) x e = drop_at ys k x e

drop_next : (xs : List Leg) (k : ℕ) (x : Leg) → slice_get xs k ≡ Some x → drop k xs ≡ x ∷ drop (k + 1) xs
drop_next xs k x e = let n : suc k ≡ k + 1 = omega arith in drop_at xs k x e ∙ ap (λ (m : ℕ). x ∷ drop m xs) n

drop_done : (xs : List Leg) (k : ℕ) → length xs ≤ k → drop k xs ≡ []
drop_done [] zero h = refl
drop_done [] (suc k) h = refl
drop_done (x ∷ xs) zero h = absurd (omega (arith, h))
drop_done (x ∷ xs) (suc k) h = drop_done xs k (omega (arith, h))

pub walked_on : (table : Timetable) (legs : List Leg) (i : ℕ) (next : Leg) (w : IsWalked table legs i) → slice_get legs (i + 1) ≡ Some next → Follows table (alighted w.last) next → IsWalked table legs (i + 1)
walked_on table legs i next w at follows =
    let e = drop_next legs (i + 1) next at in
    record {
      last = next;
      at = at;
      on = λ d a h. w.on d a (subst (λ (ls : List Leg). GoesOn table w.last ls d a) (sym e) (record { follow = (follows, h.follow); ends = h.ends }));
      back = λ d a h.
          let on : GoesOn table w.last (next ∷ drop (i + 1 + 1) legs) d a = subst (λ (ls : List Leg). GoesOn table w.last ls d a) e (w.back d a h) in
          record { follow = on.follow.1; ends = on.ends };
    }

pub not_on : (table : Timetable) (legs : List Leg) (i : ℕ) (next : Leg) (w : IsWalked table legs i) → slice_get legs (i + 1) ≡ Some next → (Follows table (alighted w.last) next → ⊥) → (d : Text) (a : ℕ) → Rest table legs d a → ⊥
not_on table legs i next w at never d a h =
    let on : GoesOn table w.last (next ∷ drop (i + 1 + 1) legs) d a = subst (λ (ls : List Leg). GoesOn table w.last ls d a) (drop_next legs (i + 1) next at) (w.back d a h) in
    never on.follow.0

pub rest_of : (table : Timetable) (o : Text) (t : ℕ) (d : Text) (a : ℕ) (legs : List Leg) → Regional table o t d a legs → Rest table legs d a
rest_of table o t d a [] r = absurd r.2
rest_of table o t d a (leg ∷ legs) r = record { follow = r.2.3; ends = r.2.4 }

pub begins_of : (table : Timetable) (o : Text) (t : ℕ) (d : Text) (a : ℕ) (legs : List Leg) (first : Leg) → slice_get legs 0 ≡ Some first → Regional table o t d a legs → IsLeg table first × (first.board ≡ o) × (t ≤ first.departs)
begins_of table o t d a [] first e r = absurd r.2
begins_of table o t d a (leg ∷ legs) first e r =
    subst (λ (l : Leg). IsLeg table l × (l.board ≡ o) × (t ≤ l.departs)) (same_Some leg first e) (r.2.0, r.2.1, r.2.2)

pub ends_of : (table : Timetable) (o : Text) (t : ℕ) (d : Text) (a : ℕ) (legs : List Leg) (i : ℕ) (w : IsWalked table legs i) → length legs ≤ i + 1 → Regional table o t d a legs → (w.last.alight ≡ d) × (w.last.arrives ≤ t + day_long)
ends_of table o t d a legs i w done r =
    let end : GoesOn table w.last [] d a = subst (λ (ls : List Leg). GoesOn table w.last ls d a) (drop_done legs (i + 1) done) (w.back d a (rest_of table o t d a legs r)) in
    (end.ends.0, subst (λ (n : ℕ). n ≤ t + day_long) (sym end.ends.1) r.1)

pub joins : (table : Timetable) (o : Text) (t : ℕ) (d : Text) (legs : List Leg) (first : Leg) (i : ℕ) (w : IsWalked table legs i) → o ≢ d → slice_get legs 0 ≡ Some first → IsLeg table first × (first.board ≡ o) × (t ≤ first.departs)
    → length legs ≤ i + 1 → w.last.alight ≡ d → w.last.arrives ≤ t + day_long → (a : ℕ) × Regional table o t d a legs
joins table o t d [] first i w apart e begin done alight within = absurd (none-some first e)
joins table o t d (leg ∷ legs) first i w apart e begin done alight within =
    let on = w.on d w.last.arrives (subst (λ (ls : List Leg). GoesOn table w.last ls d w.last.arrives) (sym (drop_done (leg ∷ legs) (i + 1) done)) (record { follow = tt; ends = (alight, refl) })) in
    let start = subst (λ (l : Leg). IsLeg table l × (l.board ≡ o) × (t ≤ l.departs)) (sym (same_Some leg first e)) begin in
    (w.last.arrives, (apart, within, (start.0, start.1, start.2, on.follow, on.ends)))

-- a test of the one is a test of the other
pub ride_case : (b : Bool) (P Q : Type 0) → (P → Q) → (Q → P) → MatchBool b P (P → ⊥) → MatchBool b Q (Q → ⊥)
ride_case true P Q f g h = f h
ride_case false P Q f g h = λ q. h (g q)

pub true_where : (b : Bool) (P Q : Type 0) → (P → Q) → (Q → P) → MatchBool b P (P → ⊥) → (IsTrue b → Q) × (Q → IsTrue b)
true_where true P Q f g h = ((λ e. f h), (λ q. refl))
true_where false P Q f g h = ((λ e. absurd (true≢false (sym e))), (λ q. absurd (h (g q))))

pub never : (Q : Type 0) → (Q → ⊥) → (IsTrue false → Q) × (Q → IsTrue false)
never Q h = ((λ e. absurd (true≢false (sym e))), (λ q. absurd (h q)))

pub to_follows : (table : Timetable) (last leg : Leg) → GoesOnBy table last leg → Follows table (alighted last) leg
to_follows table last leg g = (g.2, g.0, g.1)

pub from_follows : (table : Timetable) (last leg : Leg) → Follows table (alighted last) leg → GoesOnBy table last leg
from_follows table last leg f = (f.1, f.2, f.0)
