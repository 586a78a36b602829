-- Laws of field texts.
use Rattle.std.proofs.Common.{◌≡◌, refl, ℕ, ◌+◌, ◌*◌, ◌/◌, ◌%◌, ◌<◌, ◌≤◌, ◌^◌, Bool, true, false, List, [], ◌∷◌, ◌++◌, length, decimal, sym, ◌∙◌, ap, subst, arith, length-append, take, drop, take-append-drop, inl, inr, lit≤, lit<, rules}
use Rattle.std.specs.Prelude.{◌&&◌, ◌||◌, ◌==◌, nat_le, not, bytes_eq}
use Rattle.std.specs.List.{list_all, position_or_len}
use Rattle.std.specs.Str.{is_utf8}
use Rattle.std.proofs.lemmas.Bool.{eq-eqb, eqb-true, leb-true}
use Rattle.std.proofs.lemmas.Fmt.{decimal_injective, decimal_by_steps, decimal_nonempty, length-decimal-le}
use Rattle.ojp_values.specs.Texts.{is_stop_ref, is_code, is_label, is_name, is_code_byte, is_local_byte, is_name_byte, is_between, is_x, is_tail, is_colon, has_noncharacter, escaped, escaped_byte}
use Rattle.ojp_values.specs.Dates.{two, four, date_of, day_text, clock_text}
use Rattle.ojp_values.specs.Numbers.{duration_text}
use Rattle.ojp_values.proofs.Escapes.{escaped_injective}
use Rattle.ojp_values.proofs.Calendar.{day_text_injective, date_is_writable, days_have_dates}
use Rattle.ojp_values.proofs.FieldTexts.{moment_text_injective}
use Rattle.ojp_values.specs.declared.kinds.EventKind.{EventKind as Events}
use Rattle.ojp_values.specs.declared.kinds.EventKind.TheVariants.{Departure, Arrival}
use Rattle.ojp_grammar.specs.declared.fields.FieldValue.{FieldValue}
use Rattle.ojp_grammar.specs.declared.fields.FieldValue.TheVariants.{StopRef, Code, Label, Name, Moment, Day, Seconds, Change, Number, Count, EventKind}
use Rattle.ojp_grammar.specs.Fields.{kind_of, IsFieldValue, field_text, event_text}
use Rattle.ojp_grammar.specs.Places.{Run}
use Rattle.ojp_grammar.proofs.Tests.{either_way, and_left, and_right, or_cases}
use Rattle.ojp_grammar.proofs.Numbers.{same_duration, same_event}

-- 1 to 512 bytes, and none of them `<`
pub record IsRunText (text : List ℕ) : Type 0 where
  pub some : 1 ≤ length text
  pub short : length text ≤ 512
  pub run : Run text

run_of_test : (p : ℕ → Bool) → p 60 ≡ false → (xs : List ℕ) → list_all p xs ≡ true → Run xs
run_of_test p not_bracket [] h = tt
run_of_test p not_bracket (x ∷ xs) h = (
  (λ e. let here : p 60 ≡ true = ap p (sym e) ∙ and_left (p x) (list_all p xs) h in cc),
  run_of_test p not_bracket xs (and_right (p x) (list_all p xs) h),
)

pub run_append : (a b : List ℕ) → Run a → Run b → Run (a ++ b)
run_append [] b r s = s
run_append (x ∷ a) b r s = (r.0, run_append a b r.1 s)

between_low : (low high n : ℕ) → is_between low high n ≡ true → low ≤ n
between_low low high n h = leb-true low n (and_left (nat_le low n) (nat_le n high) h)

between_high : (low high n : ℕ) → is_between low high n ≡ true → n ≤ high
between_high low high n h = leb-true n high (and_right (nat_le low n) (nat_le n high) h)

code_runs : (s : List ℕ) → is_code s ≡ true → IsRunText s
code_runs s h =
    let size = and_left (is_between 1 16 (length s)) (list_all is_code_byte s) h in
    record {
      some = between_low 1 16 (length s) size;
      short = omega (arith, between_high 1 16 (length s) size);
      run = run_of_test is_code_byte refl s (and_right (is_between 1 16 (length s)) (list_all is_code_byte s) h);
    }

label_runs : (s : List ℕ) → is_label s ≡ true → IsRunText s
label_runs s h =
    let size = and_left (is_between 1 32 (length s)) (list_all is_local_byte s) h in
    record {
      some = between_low 1 32 (length s) size;
      short = omega (arith, between_high 1 32 (length s) size);
      run = run_of_test is_local_byte refl s (and_right (is_between 1 32 (length s)) (list_all is_local_byte s) h);
    }

same_bytes : (a b : List ℕ) → bytes_eq a b ≡ true → a ≡ b
same_bytes [] [] h = refl
same_bytes [] (y ∷ b) h = absurd cc
same_bytes (x ∷ a) [] h = absurd cc
same_bytes (x ∷ a) (y ∷ b) h =
    ap (λ z. z ∷ a) (eqb-true x y (and_left (x == y) (bytes_eq a b) h)) ∙ ap (λ l. y ∷ l) (same_bytes a b (and_right (x == y) (bytes_eq a b) h))

front_runs : (s : List ℕ) → (is_x s || is_code s) ≡ true → IsRunText s
front_runs s h =
    elim (or_cases (is_x s) (is_code s) h) [
      | inl x ↦
          let P : List ℕ → Type 0 = IsRunText in
          let one : IsRunText (120 ∷ []) = record { some = lit≤ tt; short = lit≤ tt; run = ((λ e. omega arith), tt) } in
          subst P (sym (same_bytes s (120 ∷ []) x)) one
      | inr code ↦ code_runs s code
    ]

tail_runs : (s : List ℕ) → is_tail s ≡ true → (length s ≤ 33) × Run s
tail_runs [] h = absurd cc
tail_runs (b ∷ s) h =
    let both = and_left (is_between 2 33 (length (b ∷ s)) && (b == 58)) (list_all is_local_byte s) h in (
      between_high 2 33 (length (b ∷ s)) (and_left (is_between 2 33 (length (b ∷ s))) (b == 58) both),
      (
        (λ e. let colon : b ≡ 58 = eqb-true b 58 (and_right (is_between 2 33 (length (b ∷ s))) (b == 58) both) in omega (arith, e, colon)),
        run_of_test is_local_byte refl s (and_right (is_between 2 33 (length (b ∷ s)) && (b == 58)) (list_all is_local_byte s) h),
      ),
    )

stop_runs : (s : List ℕ) → is_stop_ref s ≡ true → IsRunText s
stop_runs s h =
    let n = position_or_len is_colon s in
    let front = front_runs (take n s) (and_left (is_x (take n s) || is_code (take n s)) (is_tail (drop n s)) h) in
    let tail = tail_runs (drop n s) (and_right (is_x (take n s) || is_code (take n s)) (is_tail (drop n s)) h) in
    let whole : take n s ++ drop n s ≡ s = take-append-drop n s in
    let size : length (take n s) + length (drop n s) ≡ length s = sym (length-append (take n s) (drop n s)) ∙ ap length whole in
    let code : length (take n s) ≤ 16 = front_short (take n s) (and_left (is_x (take n s) || is_code (take n s)) (is_tail (drop n s)) h) in
    let P : List ℕ → Type 0 = Run in
    record {
      some = omega (arith, front.some, size);
      short = omega (arith, code, tail.0, size);
      run = subst P whole (run_append (take n s) (drop n s) front.run tail.1);
    }
  where
    front_short : (s : List ℕ) → (is_x s || is_code s) ≡ true → length s ≤ 16
    front_short s h =
        elim (or_cases (is_x s) (is_code s) h) [
          | inl x ↦ let e : length s ≡ 1 = ap length (same_bytes s (120 ∷ []) x) in omega (arith, e)
          | inr code ↦ between_high 1 16 (length s) (and_left (is_between 1 16 (length s)) (list_all is_code_byte s) code)
        ]

-- the spelling of a byte
record IsEscape (text : List ℕ) : Type 0 where
  some : 1 ≤ length text
  short : length text ≤ 5
  run : Run text

escape_of : (b : ℕ) → IsEscape (escaped_byte b)
escape_of b =
    elim (either_way (b == 38)) [
      | inl h ↦ rw h (record { some = lit≤ tt; short = lit≤ tt; run = search rules })
      | inr h ↦ rw h (elim (either_way (b == 60)) [
        | inl k ↦ rw k (record { some = lit≤ tt; short = lit≤ tt; run = search rules })
        | inr k ↦ rw k (elim (either_way (b == 62)) [
          | inl l ↦ rw l (record { some = lit≤ tt; short = lit≤ tt; run = search rules })
          | inr l ↦ rw l (record { some = lit≤ tt; short = lit≤ tt; run = ((λ e. let here : (b == 60) ≡ true = eq-eqb b 60 e in cc), tt) })
        ])
      ])
    ]

escapes_run : (s : List ℕ) → (length s ≤ length (escaped s)) × (length (escaped s) ≤ 5 * length s) × Run (escaped s)
escapes_run [] = (lit≤ tt, lit≤ tt, tt)
escapes_run (b ∷ s) =
    let one = escape_of b in
    let more = escapes_run s in
    let size : length (escaped (b ∷ s)) ≡ length (escaped_byte b) + length (escaped s) = length-append (escaped_byte b) (escaped s) in
    (omega (arith, size, one.some, more.0), omega (arith, size, one.short, more.1), run_append (escaped_byte b) (escaped s) one.run more.2)

name_runs : (s : List ℕ) → is_name s ≡ true → IsRunText (escaped s)
name_runs s h =
    let size = and_left (is_between 1 100 (length s)) (list_all is_name_byte s)
    (and_left (is_between 1 100 (length s) && list_all is_name_byte s) (not (has_noncharacter s))
    (and_left (is_between 1 100 (length s) && list_all is_name_byte s && not (has_noncharacter s)) (is_utf8 s) h)) in
    let e = escapes_run s in
    record {
      some = omega (arith, between_low 1 100 (length s) size, e.0);
      short = omega (arith, between_high 1 100 (length s) size, e.1);
      run = e.2;
    }

two_runs : (n : ℕ) → n < 100 → Run (two n)
two_runs n h = ((λ e. omega arith), ((λ e. omega arith), tt))

day_runs : (n : ℕ) → n ≤ 84_005 → Run (day_text n)
day_runs n h =
    let w = date_is_writable (date_of n) (days_have_dates n h).0 in
    let date = date_of n in
    run_append (four date.year) (45 ∷ two date.month ++ 45 ∷ two date.day)
    (run_append (two (date.year / 100)) (two (date.year % 100)) (two_runs (date.year / 100) (omega (arith, w.year))) (two_runs (date.year % 100) (omega arith)))
    ((λ e. omega arith), run_append (two date.month) (45 ∷ two date.day) (two_runs date.month w.month) ((λ e. omega arith), two_runs date.day w.day))

clock_runs : (s : ℕ) → s < 86_400 → Run (clock_text s)
clock_runs s h = (
  (λ e. omega arith),
  run_append (two (s / 3_600)) (58 ∷ two (s / 60 % 60) ++ 58 ∷ two (s % 60) ++ 90 ∷ []) (two_runs (s / 3_600) (omega arith)) (
    (λ e. omega arith),
    run_append (two (s / 60 % 60)) (58 ∷ two (s % 60) ++ 90 ∷ []) (two_runs (s / 60 % 60) (omega arith)) (
      (λ e. omega arith),
      run_append (two (s % 60)) (90 ∷ []) (two_runs (s % 60) (omega arith)) ((λ e. omega arith), tt),
    ),
  ),
)

digits_run : (n : ℕ) → n < 2 ^ 64 → Run (decimal n)
digits_run n h =
    decimal_by_steps (λ n ds. Run ds) (λ n small. ((λ e. omega arith), tt))
    (λ n ds large r. run_append ds ((48 + n % 10) ∷ []) r ((λ e. omega arith), tt)) n h

number_runs : (n : ℕ) → n < 2 ^ 32 → IsRunText (decimal n)
number_runs n h = record {
  some = decimal_nonempty n (omega arith);
  short = omega (arith, length-decimal-le 10 n (lit< tt) (omega arith) (omega arith));
  run = digits_run n (omega arith);
}

duration_runs : (n : ℕ) → n < 2 ^ 32 → IsRunText (duration_text n)
duration_runs n h =
    let digits = number_runs n h in
    let size : length (decimal n ++ 83 ∷ []) ≡ length (decimal n) + 1 = length-append (decimal n) (83 ∷ []) in
    record {
      some = omega arith;
      short = omega (arith, size, length-decimal-le 10 n (lit< tt) (omega arith) (omega arith));
      run = ((λ e. omega arith), ((λ e. omega arith), run_append (decimal n) (83 ∷ []) digits.run ((λ e. omega arith), tt)));
    }

event_runs : (e : Events) → IsRunText (event_text e)
event_runs Departure = record { some = lit≤ tt; short = lit≤ tt; run = search rules }
event_runs Arrival = record { some = lit≤ tt; short = lit≤ tt; run = search rules }

-- the text of each field is such a text
pub bare : (v : FieldValue) → IsFieldValue v → IsRunText (field_text v)
unfolding field_text
bare (StopRef s) f = stop_runs s f
bare (Code s) f = code_runs s f
bare (Label s) f = label_runs s f
bare (Name s) f = name_runs s f
bare (Moment n) f = record {
  some = lit≤ tt;
  short = lit≤ tt;
  run = run_append (day_text (n / 86_400)) (clock_text (n % 86_400)) (day_runs (n / 86_400) (omega (arith, f))) (clock_runs (n % 86_400) (omega arith));
}
bare (Day n) f = record { some = lit≤ tt; short = lit≤ tt; run = day_runs n (omega (arith, f)) }
bare (Seconds n) f = duration_runs n f
bare (Change n) f = duration_runs n (omega (arith, f))
bare (Number n) f = number_runs n (omega (arith, f))
bare (Count n) f = number_runs n f
bare (EventKind e) f = event_runs e

-- two values of a kind with one text are one value
pub one_value : (v w : FieldValue) → kind_of v ≡ kind_of w → IsFieldValue v → IsFieldValue w → field_text v ≡ field_text w → v ≡ w
unfolding field_text
one_value (StopRef s) (StopRef t) k f g e = ap StopRef e
one_value (Code s) (Code t) k f g e = ap Code e
one_value (Label s) (Label t) k f g e = ap Label e
one_value (Name s) (Name t) k f g e = ap Name (escaped_injective s t e)
one_value (Moment m) (Moment n) k f g e = ap Moment (moment_text_injective m n f g e)
one_value (Day m) (Day n) k f g e = ap Day (day_text_injective m n (omega (arith, f)) (omega (arith, g)) e)
one_value (Seconds m) (Seconds n) k f g e = ap Seconds (same_duration m n (omega (arith, f)) (omega (arith, g)) e)
one_value (Change m) (Change n) k f g e = ap Change (same_duration m n (omega (arith, f)) (omega (arith, g)) e)
one_value (Number m) (Number n) k f g e = ap Number (decimal_injective m n (omega (arith, f)) (omega (arith, g)) e)
one_value (Count m) (Count n) k f g e = ap Count (decimal_injective m n (omega (arith, f)) (omega (arith, g)) e)
one_value (EventKind a) (EventKind b) k f g e = ap EventKind (same_event a b e)
one_value v w k f g e = absurd cc
