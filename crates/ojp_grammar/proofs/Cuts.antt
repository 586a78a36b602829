-- Texts that are cut short, and runs of a field.
use Rattle.std.proofs.Common.{◌≡◌, ◌≢◌, refl, ℕ, zero, suc, ◌+◌, ◌<◌, ◌≤◌, Bool, true, false, List, [], ◌∷◌, ◌++◌, length, take, drop, get_or, Option, Some, None, ◌⊎◌, inl, inr, sym, ◌∙◌, ap, subst, arith, length-append, take-append-drop, min, length-take-le}
use Rattle.std.specs.Prelude.{◌==◌, nat_eq, MatchBool}
use Rattle.std.specs.List.{starts_with}
use Rattle.std.proofs.lemmas.Bool.{eq-eqb, eqb-true, cases_lt}
use Rattle.std.proofs.lemmas.List.{get_or-take, append-nil}
use Rattle.std.proofs.Math.Seq.{drop-cons}
use Rattle.memchr.specs.Find.{IsFirstByte, is_byte}
use Rattle.ojp_grammar.specs.Places.{Run, IsProperPrefix, BeginsMarkup}
use Rattle.ojp_grammar.specs.Machine.{IsRun, IsField, IsFront, IsCutText, Finds}
use Rattle.std.proofs.lemmas.List.Elements.{All-from_recursion}
use Rattle.ojp_values.specs.declared.kinds.Kind.{Kind}
use Rattle.ojp_grammar.specs.declared.fields.FieldValue.{FieldValue}
use Rattle.ojp_grammar.specs.declared.refusals.Reason.TheVariants as reasons
use Rattle.ojp_grammar.specs.declared.machine.Found.TheVariants as founds
use Rattle.ojp_grammar.specs.Fields.{field_text, Spells}
use Rattle.ojp_grammar.specs.Items.{text}
use Rattle.ojp_grammar.specs.Syntax.{Syntax}
use Rattle.ojp_grammar.specs.Steps.{begins, wants, Sticks, IsPlain}
use Rattle.ojp_grammar.proofs.Plain.{begins_small}
use Rattle.ojp_grammar.proofs.FieldLaws.{bare}
use Rattle.ojp_grammar.proofs.Tests.{and_left, and_right}
use Rattle.ojp_grammar.proofs.Spelled.{starts_with-append, text_opens, open_run_stops, run_same, field_runs}

-- ---- texts at the front

-- what begins with a text goes on behind it
pub begun : (text bytes : List ℕ) → starts_with nat_eq bytes text ≡ true → bytes ≡ text ++ drop (length text) bytes
begun [] bytes h = refl
begun (c ∷ text) [] h = absurd cc
begun (c ∷ text) (b ∷ bytes) h =
    let head : c ≡ b = eqb-true c b (and_left (c == b) (starts_with nat_eq bytes text) h) in
    let rest = begun text bytes (and_right (c == b) (starts_with nat_eq bytes text) h) in
    ap (λ x. x ∷ bytes) (sym head) ∙ ap (λ l. c ∷ l) rest

pub begun_length : (text bytes : List ℕ) → starts_with nat_eq bytes text ≡ true → length text ≤ length bytes
begun_length text bytes h =
    let e : length bytes ≡ length text + length (drop (length text) bytes) =
    ap length (begun text bytes h) ∙ length-append text (drop (length text) bytes) in
    omega (arith, e)

pub cut_is : (bytes text : List ℕ) (b : Bool) → length bytes < length text → b ≡ starts_with nat_eq text bytes → MatchBool b (IsProperPrefix bytes text) (IsProperPrefix bytes text → ⊥)
cut_is bytes text true short e =
    let whole : text ≡ bytes ++ drop (length bytes) text = begun bytes text (sym e) in (
      drop (length bytes) text,
      whole,
      λ none.
          let same : length text ≡ length bytes = ap length (whole ∙ (ap (λ l. bytes ++ l) none ∙ append-nil bytes)) in
          omega (arith, same),
    )
cut_is bytes text false short e = λ cut.
    (let at_front : starts_with nat_eq text bytes ≡ true = ap (λ t. starts_with nat_eq t bytes) cut.1 ∙ starts_with-append bytes cut.0 in cc)

-- the text that was found comes
pub text_comes : (s : Syntax) (bytes : List ℕ) (n : ℕ) → IsPlain s → begins n s ≡ true → starts_with nat_eq bytes (text n) ≡ true → Finds s bytes (founds.Text n)
text_comes s bytes n plain first at_front =
    let m = text_opens n (begins_small s n plain first) in
    let some : length (text n) ≡ suc (length m.0) = ap length m.1 in
    (begun_length (text n) bytes at_front, omega (arith, some), (first, begun (text n) bytes at_front))

-- where no text is found and none is cut short, markup is refused
pub no_text : (s : Syntax) (bytes : List ℕ) → wants s ≡ None → IsFront s bytes None → IsCutText s bytes None → Sticks s bytes reasons.Markup
no_text s bytes none absent uncut = (
  none,
  (λ n first behind e. absent n first (ap (λ b. starts_with nat_eq b (text n)) e ∙ starts_with-append (text n) behind)),
  uncut,
)

-- ---- runs

pub run_of_index : (xs : List ℕ) → ((k : ℕ) → k < length xs → get_or xs k 0 ≡ 60 → ⊥) → Run xs
run_of_index [] h = tt
run_of_index (x ∷ xs) h = (h 0 (omega arith), run_of_index xs (λ k less. h (suc k) (omega arith)))

take_past : (xs : List ℕ) (n : ℕ) → length xs ≤ n → take n xs ≡ xs
take_past [] zero h = refl
take_past [] (suc n) h = refl
take_past (x ∷ xs) zero h = absurd (omega arith)
take_past (x ∷ xs) (suc n) h = ap (λ l. x ∷ l) (take_past xs n (omega arith))

take_min : (xs : List ℕ) (n : ℕ) → (n < length xs) ⊎ (length xs ≤ n) → take (min (length xs) n) xs ≡ take n xs
take_min xs n (inr short) =
    let e : min (length xs) n ≡ length xs = omega arith in
    ap (λ m. take m xs) e ∙ (take_past xs (length xs) (omega arith) ∙ sym (take_past xs n short))
take_min xs n (inl long) = let e : min (length xs) n ≡ n = omega arith in ap (λ m. take m xs) e

pub run_is : (bytes : List ℕ) (found : Option ℕ) → IsFirstByte (is_byte 60) (take (min (length bytes) 513) bytes) found → IsRun bytes found
run_is bytes None first =
    let P : List ℕ → Type 0 = Run in
    subst P (take_min bytes 513 (cases_lt 513 (length bytes)))
    (run_of_index (take (min (length bytes) 513) bytes)
    (λ k less here. first k (omega arith) less (eq-eqb (get_or (take (min (length bytes) 513) bytes) k 0) 60 here)))
run_is bytes (Some len) first =
    let n = min (length bytes) 513 in
    let size : length (take n bytes) ≡ n = length-take-le n bytes (omega arith) in
    let low : len < n = omega (arith, size, first.0.high) in
    let here : get_or bytes len 0 ≡ 60 =
    sym (get_or-take n bytes len 0 low) ∙ eqb-true (get_or (take n bytes) len 0) 60 first.1 in
    let short : len ≤ length bytes = omega (arith, low) in
    let count : length (take len bytes) ≡ len = length-take-le len bytes short in
    let opens : drop len bytes ≡ get_or bytes len 0 ∷ drop (suc len) bytes = drop-cons bytes len 0 (omega (arith, low)) in (
      omega (arith, low),
      omega (arith, low),
      run_of_index (take len bytes) (λ k less is.
          let k_low : k < len = omega (arith, less, count) in
          first.0.before k (omega arith) k_low
          (eq-eqb (get_or (take n bytes) k 0) 60
          (get_or-take n bytes k 0 (omega (arith, low, k_low)) ∙ (sym (get_or-take len bytes k 0 k_low) ∙ is)))),
      (drop (suc len) bytes, opens ∙ ap (λ b. b ∷ drop (suc len) bytes) here),
    )

-- ---- fields

pub field_comes : (kind : Kind) (bytes : List ℕ) (len : ℕ) (v : FieldValue) → IsRun bytes (Some len) → Spells kind v (take len bytes) → IsField kind bytes (founds.Field len v)
field_comes kind bytes len v run spelled =
    let count : length (take len bytes) ≡ len = length-take-le len bytes (omega (arith, run.0)) in
    let some : 1 ≤ length (field_text v) = (bare v spelled.is).some in
    let same : length (field_text v) ≡ length (take len bytes) = ap length spelled.text_is in (
      omega (arith, run.0),
      omega (arith, some, same, count),
      record {
        kind_is = spelled.kind_is;
        is = spelled.is;
        parts = sym (take-append-drop len bytes) ∙ ap (λ t. t ++ drop len bytes) (sym spelled.text_is);
        markup = run.3;
      },
    )

pub no_field : (kind : Kind) (bytes : List ℕ) (len : ℕ) → IsRun bytes (Some len) → ((v : FieldValue) → Spells kind v (take len bytes) → ⊥) → IsField kind bytes (founds.Stuck (reasons.Field kind))
no_field kind bytes len run none =
    let whole : bytes ≡ take len bytes ++ drop len bytes = sym (take-append-drop len bytes) in (
      refl,
      (λ open_run. open_run_stops bytes (take len bytes) (drop len bytes) open_run whole run.3),
      λ v behind kind_is is parts markup.
          let same = run_same (take len bytes) (field_text v) (drop len bytes) behind run.2 (field_runs v is) run.3 markup (sym whole ∙ parts) in
          none v (record { kind_is = kind_is; is = is; text_is = sym same.0 }),
    )

stops_within : (a x : List ℕ) (n : ℕ) → length a < n → BeginsMarkup x → Run (take n (a ++ x)) → ⊥
stops_within a x zero h m r = omega arith
stops_within [] x (suc n) h m r =
    let P : List ℕ → Type 0 = λ l. Run (take (suc n) l) in
    let s : Run (take (suc n) (60 ∷ m.0)) = subst P m.1 r in s.0 refl
stops_within (b ∷ a) x (suc n) h m r = stops_within a x n (omega arith) m r.1

pub too_long : (kind : Kind) (bytes : List ℕ) → IsRun bytes None → 512 < length bytes → IsField kind bytes (founds.Stuck (reasons.Field kind))
too_long kind bytes run long = (
  refl,
  (λ open_run. omega (arith, open_run.1)),
  λ v behind kind_is is parts markup.
      let P : List ℕ → Type 0 = λ l. Run (take 513 l) in
      stops_within (field_text v) behind 513 (omega (arith, (bare v is).short)) markup (subst P parts run),
)

pub open_run : (kind : Kind) (bytes : List ℕ) → IsRun bytes None → length bytes ≤ 512 → IsField kind bytes (founds.Stuck reasons.Truncated)
open_run kind bytes run short =
    let P : List ℕ → Type 0 = Run in
    (All-from_recursion (λ b. b ≢ 60) bytes (subst P (take_past bytes 513 (omega arith)) run), short)
