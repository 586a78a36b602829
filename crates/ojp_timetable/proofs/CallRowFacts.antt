-- The journeys that a row of calls makes, and how they grow.
use Rattle.std.proofs.Common.{◌≡◌, ℕ, zero, suc, Bool, true, false, not, cond, nat_lt, ◌||◌, ◌+◌, ◌-◌, ◌≤◌, List, [], ◌∷◌, ◌++◌, length, take, drop, refl, sym, ◌∙◌, ap, arith, subst, true≢false, length-drop, length-take-le, slice_range}
use Rattle.std.specs.List.{sum_by, list_any, prefix_len}
use Rattle.std.specs.Prelude.{position, Option, Some, None, is_some, bytes_eq, unwrap_or, option_map, slice_get}
use Rattle.std.specs.Map.{keys_of, lookup}
use Rattle.std.proofs.lemmas.List.Sums.{sum_by-cons}
use Rattle.std.proofs.lemmas.List.{drop-append-le, take-append-le, take_all}
use Rattle.std.proofs.Math.Seq.{drop-length}
use Rattle.ojp_values.specs.Texts.{Text}
use Rattle.ojp_timetable.specs.Tables.{Journey, Call}
use Rattle.ojp_timetable.specs.Contents.{with_call}
use Rattle.ojp_timetable.specs.Kept.{AreInRow, AreRising, end_at, journey_kept, journeys_of}
use Rattle.ojp_timetable.specs.Views.{calls_at, view_of}
use Rattle.ojp_timetable.specs.declared.kept.Head.{Head}

-- there are as many journeys as entries
pub length-journeys_of : (entries : List (Text × Head)) (calls : List Call) → length (journeys_of entries calls) ≡ length entries
length-journeys_of [] calls = refl
length-journeys_of (e ∷ []) calls = refl
length-journeys_of (e ∷ next ∷ more) calls = ap suc (length-journeys_of (next ∷ more) calls)

-- the calls begin at the end at the latest
rising_end : (start : ℕ) (entries : List (Text × Head)) (end : ℕ) → AreRising start entries end → start ≤ end
rising_end start [] end h = h
rising_end start (e ∷ more) end h = omega (arith, h.0, rising_end e.1.first_call more end h.1)

-- the calls of the journeys are all calls from where the first journey's begin
pub calls_from : (e : Text × Head) (more : List (Text × Head)) (calls : List Call) → AreRising e.1.first_call more (length calls)
    → sum_by (λ (journey : Journey). length journey.calls) (journeys_of (e ∷ more) calls) + e.1.first_call ≡ length calls
calls_from e [] calls h =
    let step = sum_by-cons (λ (journey : Journey). length journey.calls) (journey_kept e (drop e.1.first_call calls)) [] in
    omega (arith, step, length-drop e.1.first_call calls, h)
calls_from e (next ∷ more) calls h =
    let end : next.1.first_call ≤ length calls = rising_end next.1.first_call more (length calls) h.1 in
    let room : next.1.first_call - e.1.first_call ≤ length (drop e.1.first_call calls) = omega (arith, length-drop e.1.first_call calls, h.0) in
    let step = sum_by-cons (λ (journey : Journey). length journey.calls) (journey_kept e (slice_range calls e.1.first_call next.1.first_call)) (journeys_of (next ∷ more) calls) in
    omega (arith, step, length-take-le (next.1.first_call - e.1.first_call) (drop e.1.first_call calls) room, calls_from next more calls h.1, h.0)

pub calls_in_row : (entries : List (Text × Head)) (calls : List Call) → AreInRow entries (length calls)
    → length calls ≡ sum_by (λ (journey : Journey). length journey.calls) (journeys_of entries calls)
calls_in_row [] calls h = h
calls_in_row (e ∷ more) calls h =
    let from : AreRising e.1.first_call more (length calls) = subst (λ (n : ℕ). AreRising n more (length calls)) (sym h.0) h.1 in
    omega (arith, calls_from e more calls from, h.0)

-- a range that ends before the new call stays
range-push : (calls : List Call) (call : Call) (a b : ℕ) → a ≤ b → b ≤ length calls → slice_range calls a b ≡ slice_range (calls ++ call ∷ []) a b
range-push calls call a b h k =
    let room : b - a ≤ length (drop a calls) = omega (arith, length-drop a calls) in
    let a_in : a ≤ length calls = omega arith in
    sym (ap (take (b - a)) (drop-append-le a calls (call ∷ []) a_in) ∙ take-append-le (b - a) (drop a calls) (call ∷ []) room)

with_call_from : (e : Text × Head) (more : List (Text × Head)) (calls : List Call) (call : Call) → e.1.first_call ≤ length calls → AreRising e.1.first_call more (length calls)
    → with_call (journeys_of (e ∷ more) calls) call ≡ journeys_of (e ∷ more) (calls ++ call ∷ [])
with_call_from e [] calls call h k = ap (λ (cs : List Call). journey_kept e cs ∷ []) (sym (drop-append-le e.1.first_call calls (call ∷ []) h))
with_call_from e (next ∷ []) calls call h k =
    let end : next.1.first_call ≤ length calls = rising_end next.1.first_call [] (length calls) k.1 in
    ap (λ (js : List Journey). journey_kept e (slice_range calls e.1.first_call next.1.first_call) ∷ js) (with_call_from next [] calls call end k.1)
    ∙ ap (λ (cs : List Call). journey_kept e cs ∷ journeys_of (next ∷ []) (calls ++ call ∷ [])) (range-push calls call e.1.first_call next.1.first_call k.0 end)
with_call_from e (next ∷ third ∷ more) calls call h k =
    let end : next.1.first_call ≤ length calls = rising_end next.1.first_call (third ∷ more) (length calls) k.1 in
    ap (λ (js : List Journey). journey_kept e (slice_range calls e.1.first_call next.1.first_call) ∷ js) (with_call_from next (third ∷ more) calls call end k.1)
    ∙ ap (λ (cs : List Call). journey_kept e cs ∷ journeys_of (next ∷ third ∷ more) (calls ++ call ∷ [])) (range-push calls call e.1.first_call next.1.first_call k.0 end)

-- a call at the end of the row is the last journey's
pub with_call-row : (entries : List (Text × Head)) (calls : List Call) (call : Call) → AreInRow entries (length calls)
    → with_call (journeys_of entries calls) call ≡ journeys_of entries (calls ++ call ∷ [])
with_call-row [] calls call h = refl
with_call-row (e ∷ more) calls call h =
    let from : AreRising e.1.first_call more (length calls) = subst (λ (n : ℕ). AreRising n more (length calls)) (sym h.0) h.1 in
    with_call_from e more calls call (omega (arith, h.0)) from

none_left : (calls : List Call) (n : ℕ) → n ≡ length calls → drop n calls ≡ []
none_left calls n e = ap (λ (k : ℕ). drop k calls) e ∙ drop-length calls

to_end : (calls : List Call) (a b : ℕ) → b ≡ length calls → a ≤ length calls → slice_range calls a b ≡ drop a calls
to_end calls a b e h = take_all (b - a) (drop a calls) (omega (arith, length-drop a calls, e))

-- a journey that begins at the end of the row has no calls, and those of the others stay
head_from : (e : Text × Head) (more : List (Text × Head)) (calls : List Call) (last : Text × Head) → last.1.first_call ≡ length calls → e.1.first_call ≤ length calls → AreRising e.1.first_call more (length calls)
    → journeys_of ((e ∷ more) ++ last ∷ []) calls ≡ journeys_of (e ∷ more) calls ++ journey_kept last [] ∷ []
head_from e [] calls last at h k =
    ap (λ (cs : List Call). journey_kept e cs ∷ journeys_of (last ∷ []) calls) (to_end calls e.1.first_call last.1.first_call at h)
    ∙ ap (λ (cs : List Call). journey_kept e (drop e.1.first_call calls) ∷ journey_kept last cs ∷ []) (none_left calls last.1.first_call at)
head_from e (next ∷ more) calls last at h k =
    let end : next.1.first_call ≤ length calls = rising_end next.1.first_call more (length calls) k.1 in
    ap (λ (js : List Journey). journey_kept e (slice_range calls e.1.first_call next.1.first_call) ∷ js) (head_from next more calls last at end k.1)

pub head-row : (entries : List (Text × Head)) (calls : List Call) (last : Text × Head) → last.1.first_call ≡ length calls → AreInRow entries (length calls)
    → journeys_of (entries ++ last ∷ []) calls ≡ journeys_of entries calls ++ journey_kept last [] ∷ []
head-row [] calls last at h = ap (λ (cs : List Call). journey_kept last cs ∷ []) (none_left calls last.1.first_call at)
head-row (e ∷ more) calls last at h =
    let from : AreRising e.1.first_call more (length calls) = subst (λ (n : ℕ). AreRising n more (length calls)) (sym h.0) h.1 in
    head_from e more calls last at (omega (arith, h.0)) from

-- one more call keeps the row
rising-more : (start : ℕ) (entries : List (Text × Head)) (end : ℕ) → AreRising start entries end → AreRising start entries (end + 1)
rising-more start [] end h = omega (arith, h)
rising-more start (e ∷ more) end h = (h.0, rising-more e.1.first_call more end h.1)

pub in_row-call : (e : Text × Head) (more : List (Text × Head)) (end : ℕ) → AreInRow (e ∷ more) end → AreInRow (e ∷ more) (end + 1)
in_row-call e more end h = (h.0, rising-more 0 more end h.1)

rising-head : (start : ℕ) (entries : List (Text × Head)) (end : ℕ) (last : Text × Head) → last.1.first_call ≡ end → AreRising start entries end → AreRising start (entries ++ last ∷ []) end
rising-head start [] end last at h = (omega (arith, at, h), omega (arith, at))
rising-head start (e ∷ more) end last at h = (h.0, rising-head e.1.first_call more end last at h.1)

-- and one more journey at its end
pub in_row-head : (entries : List (Text × Head)) (end : ℕ) (last : Text × Head) → last.1.first_call ≡ end → AreInRow entries end → AreInRow (entries ++ last ∷ []) end
in_row-head [] end last at h = (at ∙ h, omega (arith, h))
in_row-head (e ∷ more) end last at h = (h.0, rising-head 0 more end last at h.1)

some_journey : {X : Type 0} (b : Bool) (v : X) (r : Option X) (q : Bool) → is_some r ≡ q → is_some (cond b (Some v) r) ≡ b || q
some_journey true v r q h = refl
some_journey false v r q h = h

-- a journey is found where some entry has its label
pub any_journey : (test : Text → Bool) (id : Text) → ((t : Text) → test t ≡ bytes_eq id t) → (entries : List (Text × Head)) (calls : List Call)
    → is_some (lookup test entries) ≡ list_any (λ (journey : Journey). bytes_eq id journey.id) (journeys_of entries calls)
any_journey test id agree [] calls = refl
any_journey test id agree (e ∷ []) calls = some_journey (test e.0) e.1 None false refl ∙ ap (λ (b : Bool). b || false) (agree e.0)
any_journey test id agree (e ∷ next ∷ more) calls =
    some_journey (test e.0) e.1 (lookup test (next ∷ more)) _ (any_journey test id agree (next ∷ more) calls)
    ∙ ap (λ (b : Bool). b || list_any (λ (journey : Journey). bytes_eq id journey.id) (journeys_of (next ∷ more) calls)) (agree e.0)

-- and not found where none has it
pub absent_journey : (test : Text → Bool) (id : Text) → ((t : Text) → test t ≡ bytes_eq id t) → (entries : List (Text × Head)) (calls : List Call)
    → list_any (λ (journey : Journey). bytes_eq id journey.id) (journeys_of entries calls) ≡ false → lookup test entries ≡ None
absent_journey test id agree entries calls h = none_of (lookup test entries) (any_journey test id agree entries calls ∙ h)
  where
    none_of : (o : Option Head) → is_some o ≡ false → o ≡ None
    none_of None e = refl
    none_of (Some x) e = absurd (true≢false e)

-- one more call keeps the row, where there is a journey
pub in_row-push : (entries : List (Text × Head)) (end : ℕ) → (entries ≡ [] → ⊥) → AreInRow entries end → AreInRow entries (end + 1)
in_row-push [] end some h = absurd (some refl)
in_row-push (e ∷ more) end some h = in_row-call e more end h

abbrev pub kept_at : List (Text × Head) → List Call → ℕ → Text × Head → Journey
kept_at entries calls i e = journey_kept e (slice_range calls e.1.first_call (end_at entries i (length calls)))

-- the journey of a number has the calls from its first on to the first of the next
journey_from : (e : Text × Head) (more : List (Text × Head)) (calls : List Call) (i : ℕ) → e.1.first_call ≤ length calls → AreRising e.1.first_call more (length calls)
    → slice_get (journeys_of (e ∷ more) calls) i ≡ option_map (kept_at (e ∷ more) calls i) (slice_get (e ∷ more) i)
journey_from e [] calls zero h k = ap (λ (cs : List Call). Some (journey_kept e cs)) (sym (to_end calls e.1.first_call (length calls) refl h))
journey_from e [] calls (suc i) h k = refl
journey_from e (next ∷ more) calls zero h k = refl
journey_from e (next ∷ more) calls (suc i) h k = journey_from next more calls i (rising_end next.1.first_call more (length calls) k.1) k.1

in_order : (e : Text × Head) (more : List (Text × Head)) (end : ℕ) (i : ℕ) (x : Text × Head) → e.1.first_call ≤ end → AreRising e.1.first_call more end
    → slice_get (e ∷ more) i ≡ Some x → (x.1.first_call ≤ end_at (e ∷ more) i end) × (end_at (e ∷ more) i end ≤ end)
in_order e [] end zero x h k at = (omega (arith, ap (λ (o : Option (Text × Head)). unwrap_or (option_map (λ (e : Text × Head). e.1.first_call) o) 0) at), omega arith)
in_order e [] end (suc i) x h k at = absurd (cc)
in_order e (next ∷ more) end zero x h k at =
    (omega (arith, k.0, ap (λ (o : Option (Text × Head)). unwrap_or (option_map (λ (e : Text × Head). e.1.first_call) o) 0) at), rising_end next.1.first_call more end k.1)
in_order e (next ∷ more) end (suc i) x h k at = in_order next more end i x (rising_end next.1.first_call more end k.1) k.1 at

from_first : (e : Text × Head) (more : List (Text × Head)) (end : ℕ) → AreInRow (e ∷ more) end → (e.1.first_call ≤ end) × AreRising e.1.first_call more end
from_first e more end h = (omega (arith, h.0, rising_end 0 more end h.1), subst (λ (n : ℕ). AreRising n more end) (sym h.0) h.1)

pub journey_at : (entries : List (Text × Head)) (calls : List Call) (i : ℕ) → AreInRow entries (length calls)
    → slice_get (journeys_of entries calls) i ≡ option_map (kept_at entries calls i) (slice_get entries i)
journey_at [] calls i h = refl
journey_at (e ∷ more) calls i h = let f = from_first e more (length calls) h in journey_from e more calls i f.0 f.1

-- its calls begin where they end at the latest, and end within all calls
pub order_at : (entries : List (Text × Head)) (end : ℕ) (i : ℕ) (x : Text × Head) → AreInRow entries end → slice_get entries i ≡ Some x
    → (x.1.first_call ≤ end_at entries i end) × (end_at entries i end ≤ end)
order_at [] end i x h at = absurd (cc)
order_at (e ∷ more) end i x h at = let f = from_first e more end h in in_order e more end i x f.0 f.1 at

pub calls_are : (entries : List (Text × Head)) (calls : List Call) (i : ℕ) (e : Text × Head) → AreInRow entries (length calls) → slice_get entries i ≡ Some e
    → calls_at (journeys_of entries calls) i ≡ slice_range calls e.1.first_call (end_at entries i (length calls))
unfolding calls_at
calls_are entries calls i e h at =
    ap (λ (o : Option Journey). unwrap_or (option_map (λ (journey : Journey). journey.calls) o) [])
    (journey_at entries calls i h ∙ ap (option_map (kept_at entries calls i)) at)

pub view_is : (entries : List (Text × Head)) (calls : List Call) (i : ℕ) (e : Text × Head) → AreInRow entries (length calls) → slice_get entries i ≡ Some e
    → Some (record { id = e.0; line = e.1.line; service = e.1.service; calls = length (calls_at (journeys_of entries calls) i) }) ≡ option_map view_of (slice_get (journeys_of entries calls) i)
view_is entries calls i e h at =
    ap (λ (cs : List Call). Some (view_of (journey_kept e cs))) (calls_are entries calls i e h at)
    ∙ sym (ap (option_map view_of) (journey_at entries calls i h ∙ ap (option_map (kept_at entries calls i)) at))

pub no_journey : (entries : List (Text × Head)) (calls : List Call) (i : ℕ) → AreInRow entries (length calls) → slice_get entries i ≡ None → slice_get (journeys_of entries calls) i ≡ None
no_journey entries calls i h at = journey_at entries calls i h ∙ ap (option_map (kept_at entries calls i)) at

pub no_calls : (entries : List (Text × Head)) (calls : List Call) (i : ℕ) → AreInRow entries (length calls) → slice_get entries i ≡ None → calls_at (journeys_of entries calls) i ≡ []
unfolding calls_at
no_calls entries calls i h at =
    ap (λ (o : Option Journey). unwrap_or (option_map (λ (journey : Journey). journey.calls) o) []) (no_journey entries calls i h at)

-- the number of the first journey of that label is that of its entry
module _ (test : Text → Bool) (id : Text) (agree : (t : Text) → test t ≡ bytes_eq id t) where
  stop_case : (b c : Bool) (m n : ℕ) → b ≡ c → m ≡ n → cond (not b) (1 + m) 0 ≡ cond (not c) (1 + n) 0
  stop_case b c m n e h = λ i. cond (not (e i)) (1 + h i) 0

  prefix_row : (entries : List (Text × Head)) (calls : List Call)
      → prefix_len (λ (t : Text). not (test t)) (keys_of entries) ≡ prefix_len (λ (j : Journey). not (bytes_eq id j.id)) (journeys_of entries calls)
  prefix_row [] calls = refl
  prefix_row (e ∷ []) calls = stop_case (test e.0) (bytes_eq id e.0) 0 0 (agree e.0) refl
  prefix_row (e ∷ next ∷ more) calls = stop_case (test e.0) (bytes_eq id e.0) _ _ (agree e.0) (prefix_row (next ∷ more) calls)

  length_row : (entries : List (Text × Head)) (calls : List Call) → length (keys_of entries) ≡ length (journeys_of entries calls)
  length_row [] calls = refl
  length_row (e ∷ []) calls = refl
  length_row (e ∷ next ∷ more) calls = ap suc (length_row (next ∷ more) calls)

  pub position_row : (entries : List (Text × Head)) (calls : List Call)
      → position test (keys_of entries) ≡ position (λ (j : Journey). bytes_eq id j.id) (journeys_of entries calls)
  position_row entries calls = λ i. cond (nat_lt (prefix_row entries calls i) (length_row entries calls i)) (Some (prefix_row entries calls i)) None
