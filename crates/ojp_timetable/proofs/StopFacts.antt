-- Stops and the calls at them, and how they grow.
use Rattle.std.proofs.Common.{◌≡◌, ℕ, zero, suc, Bool, false, cond, nat_lt, ◌+◌, ◌-◌, ◌<◌, ◌≤◌, List, [], ◌∷◌, ◌++◌, length, map, drop, get_or, refl, sym, ◌∙◌, ap, arith, inl, inr, slice_get, slice_range, length-append, length-drop, length-take-le, subst}
use Rattle.std.specs.Prelude.{Option, Some, None, bytes_eq, option_map, unwrap_or}
use Rattle.std.proofs.lemmas.List.{get_or-take, get_or-drop, map-append}
use Rattle.std.proofs.lemmas.List.Quantifiers.{position-Some}
use Rattle.std.specs.List.{position_or_len}
use Rattle.std.proofs.Math.Dec.{eqb}
use Rattle.std.proofs.lemmas.Bool.{cases_Bool, eqb-true, lt-ltb}
use Rattle.std.proofs.lemmas.List.Folds.{position_or_len_push}
use Rattle.std.proofs.lemmas.Option.{cond_some, slice_get-get_or, slice_get_past, none-some, same_Some}
use Rattle.std.proofs.lemmas.Slice.Eq.{bytes_eq-Decides}
use Rattle.ojp_values.specs.Texts.{Text}
use Rattle.ojp_timetable.specs.Tables.{Call, Place}
use Rattle.ojp_timetable.specs.Kept.{AreAtPlaces, HasNumber, call_kept, place_kept, stop_of}
use Rattle.ojp_timetable.specs.declared.kept.KeptCall.{KeptCall}
use Rattle.ojp_timetable.specs.declared.kept.PlaceFacts.{PlaceFacts}

no_place : Place
no_place = record { stop = []; change = 0; name = [] }

pub number-low : (places : List Place) (stop : Text) (number : ℕ) → HasNumber places stop number → number < length places
number-low places stop number e = (position-Some (λ (place : Place). bytes_eq stop place.stop) places number no_place e).0

-- the stop of its number is the stop
pub number-stop : (places : List Place) (stop : Text) (number : ℕ) → HasNumber places stop number → stop_of places number ≡ stop
number-stop places stop number e =
    let h = position-Some (λ (place : Place). bytes_eq stop place.stop) places number no_place e in
    ap (λ (o : Option Place). unwrap_or (option_map (λ (place : Place). place.stop) o) []) (slice_get-get_or places number no_place h.0)
    ∙ sym ((bytes_eq-Decides stop (get_or places number no_place).stop).0 h.1)

pub first_is : (n m size : ℕ) → n ≡ m → m < size → cond (nat_lt n size) (Some n) None ≡ Some m
first_is n m size e l = ap (λ (b : Bool). cond b (Some n) None) (lt-ltb n size (omega (arith, e, l))) ∙ ap Some e

apart : (n m : ℕ) → n < m → eqb n m ≡ false
apart n m l = elim (cases_Bool (eqb n m)) [ inl e ↦ absurd (omega (arith, l, eqb-true n m e)) | inr e ↦ e ]

-- a stop keeps its number where one more comes
pub number-more : (places : List Place) (more : Place) (stop : Text) (number : ℕ) → HasNumber places stop number → HasNumber (places ++ more ∷ []) stop number
number-more places more stop number e =
    let test : Place → Bool = λ (place : Place). bytes_eq stop place.stop in
    let tells = cond_some (nat_lt (position_or_len test places) (length places)) (position_or_len test places) number e in
    let low = number-low places stop number e in
    let not_end : eqb (position_or_len test places) (length places) ≡ false = apart (position_or_len test places) (length places) (omega (arith, tells.1, low)) in
    let same : position_or_len test (places ++ more ∷ []) ≡ number =
    position_or_len_push test places more ∙ (ap (λ (b : Bool). cond b (length places + cond (test more) 0 1) (position_or_len test places)) not_end ∙ tells.1) in
    first_is (position_or_len test (places ++ more ∷ [])) number (length (places ++ more ∷ [])) same (omega (arith, low, length-append places (more ∷ [])))

stop_of-more : (places more : List Place) (number : ℕ) → number < length places → stop_of (places ++ more) number ≡ stop_of places number
stop_of-more [] more number h = absurd (omega (arith, h))
stop_of-more (place ∷ places) more zero h = refl
stop_of-more (place ∷ places) more (suc number) h = stop_of-more places more number (omega (arith, h))

-- the calls that are kept stay where one more stop comes
pub calls-more : (places : List Place) (more : Place) (kept : List KeptCall) → AreAtPlaces places kept → map (call_kept (places ++ more ∷ [])) kept ≡ map (call_kept places) kept
calls-more places more [] h = refl
calls-more places more (call ∷ kept) h =
    ap (λ (stop : Text). record { stop = stop; arrives = call.arrives; departs = call.departs } ∷ map (call_kept (places ++ more ∷ [])) kept)
    (stop_of-more places (more ∷ []) call.place (number-low places (stop_of places call.place) call.place h.0))
    ∙ ap (λ (calls : List Call). call_kept places call ∷ calls) (calls-more places more kept h.1)

pub at-more : (places : List Place) (more : Place) (kept : List KeptCall) → AreAtPlaces places kept → AreAtPlaces (places ++ more ∷ []) kept
at-more places more [] h = tt
at-more places more (call ∷ kept) h = (
  subst (λ (stop : Text). HasNumber (places ++ more ∷ []) stop call.place) (sym (stop_of-more places (more ∷ []) call.place (number-low places (stop_of places call.place) call.place h.0)))
      (number-more places more (stop_of places call.place) call.place h.0),
  at-more places more kept h.1,
)

pub at-push : (places : List Place) (kept : List KeptCall) (call : KeptCall) → AreAtPlaces places kept → HasNumber places (stop_of places call.place) call.place → AreAtPlaces places (kept ++ call ∷ [])
at-push places [] call h l = (l, tt)
at-push places (first ∷ kept) call h l = (h.0, at-push places kept call h.1 l)

pub at-read : (places : List Place) (kept : List KeptCall) (i : ℕ) (call : KeptCall) → AreAtPlaces places kept → slice_get kept i ≡ Some call → HasNumber places (stop_of places call.place) call.place
at-read places [] i call h e = absurd (none-some call e)
at-read places (first ∷ kept) zero call h e = subst (λ (c : KeptCall). HasNumber places (stop_of places c.place) c.place) (same_Some first call e) h.0
at-read places (first ∷ kept) (suc i) call h e = at-read places kept i call h.1 e

no_call : Call
no_call = record { stop = []; arrives = None; departs = None }

pub length-range : (calls : List Call) (a b : ℕ) → a ≤ b → b ≤ length calls → length (slice_range calls a b) ≡ b - a
length-range calls a b h k = length-take-le (b - a) (drop a calls) (omega (arith, length-drop a calls))

-- an element of a range is one behind its begin
pub range-at : (calls : List Call) (a b i : ℕ) → a ≤ b → b ≤ length calls → i < b - a → slice_get (slice_range calls a b) i ≡ slice_get calls (a + i)
range-at calls a b i h k l =
    let in_range : i < length (slice_range calls a b) = omega (arith, length-range calls a b h k) in
    let in_all : a + i < length calls = omega arith in
    slice_get-get_or (slice_range calls a b) i no_call in_range
    ∙ (ap Some (get_or-take (b - a) (drop a calls) i no_call l ∙ get_or-drop a calls i no_call) ∙ sym (slice_get-get_or calls (a + i) no_call in_all))

pub range-past : (calls : List Call) (a b i : ℕ) → a ≤ b → b ≤ length calls → b - a ≤ i → slice_get (slice_range calls a b) i ≡ None
range-past calls a b i h k l = slice_get_past (slice_range calls a b) i (omega (arith, length-range calls a b h k))

-- where one more entry comes, too
pub calls-more-kept : (entries : List (Text × PlaceFacts)) (entry : Text × PlaceFacts) (kept : List KeptCall) → AreAtPlaces (map place_kept entries) kept
    → map (call_kept (map place_kept (entries ++ entry ∷ []))) kept ≡ map (call_kept (map place_kept entries)) kept
calls-more-kept entries entry kept h =
    ap (λ (places : List Place). map (call_kept places) kept) (map-append place_kept entries (entry ∷ [])) ∙ calls-more (map place_kept entries) (place_kept entry) kept h

pub at-more-kept : (entries : List (Text × PlaceFacts)) (entry : Text × PlaceFacts) (kept : List KeptCall) → AreAtPlaces (map place_kept entries) kept → AreAtPlaces (map place_kept (entries ++ entry ∷ [])) kept
at-more-kept entries entry kept h =
    subst (λ (places : List Place). AreAtPlaces places kept) (sym (map-append place_kept entries (entry ∷ []))) (at-more (map place_kept entries) (place_kept entry) kept h)

pub no_kept : KeptCall
no_kept = record { place = 0; arrives = None; departs = None }

pub read-kept : (seen kept : List KeptCall) (i : ℕ) (call : KeptCall) → seen ≡ kept → i < length seen → call ≡ get_or seen i no_kept → slice_get kept i ≡ Some call
read-kept seen kept i call same within is =
    subst (λ (calls : List KeptCall). slice_get calls i ≡ Some call) same (slice_get-get_or seen i no_kept within ∙ ap (λ (c : KeptCall). Some c) (sym is))
