-- The text of each kind of field is short and has no `<`, and it spells one value.
use Rattle.std.proofs.Common.{◌≡◌, ◌≢◌, ℕ, ◌+◌, ◌*◌, ◌/◌, ◌%◌, ◌<◌, ◌≤◌, ◌^◌, ◌==◌, ◌&&◌, ◌||◌, Bool, true, false, cond, true≢false, not, IsTrue, List, [], ◌∷◌, ◌++◌, length, take, drop, All, codes, refl, sym, ap, ◌∙◌, subst, arith, lit≤, length-append, take-append-drop}
use Rattle.std.specs.List.{list_all, position_or_len}
use Rattle.std.specs.Fmt.{decimal}
use Rattle.std.specs.Char.{digit_value}
use Rattle.std.specs.Str.Parse.{AllDigits}
use Rattle.std.proofs.lemmas.Bool.{leb-true, eqb-true, eqb-false}
use Rattle.std.proofs.Math.Seq.{take-append_seam}
use Rattle.std.proofs.lemmas.Slice.Eq.{bytes_eq-Decides}
use Rattle.std.proofs.lemmas.List.Elements.{All-cons, All-append}
use Rattle.std.proofs.lemmas.List.Sums.{AllPass-from_list_all}
use Rattle.std.proofs.lemmas.Fmt.{decimal_is_IsNumeral, decimal_nonempty, decimal_injective, length-decimal-le}
use Rattle.ojp_values.specs.Texts.{is_code, is_label, is_stop_ref, is_name, is_code_byte, is_local_byte, is_colon, is_x, is_tail, is_between, escaped, escaped_byte}
use Rattle.ojp_values.specs.declared.dates.CalendarDate.{CalendarDate}
use Rattle.ojp_values.specs.declared.moments.TheConstants.{LAST_SECOND}
use Rattle.ojp_values.specs.FieldTexts.{IsFieldText}
use Rattle.ojp_values.specs.Numbers.{duration_text}
use Rattle.ojp_values.specs.Dates.{IsWritable, two, date_text, date_of, day_text, clock_text, moment_text}
use Rattle.ojp_values.proofs.Escapes.{and_true_left, and_true_right, name_bounds, escaped_byte_some}
use Rattle.ojp_values.proofs.Calendar.{two_injective, days_have_dates, date_is_writable, day_text_injective}

-- ---- no `<`

-- the byte is no `<`
abbrev IsOther : ℕ → Type 0
IsOther b = b ≢ 60

abbrev IsBare : List ℕ → Type 0
IsBare text = All IsOther text

bare_nil : IsBare []
bare_nil k d h = absurd (omega (arith, h))

-- a test that `<` fails
bare_by : (p : ℕ → Bool) (text : List ℕ) → p 60 ≡ false → list_all p text ≡ true → IsBare text
bare_by p text fails pass k d h e = true≢false (sym (AllPass-from_list_all p text pass k d h) ∙ ap p e ∙ fails)

bare_digits : (ds : List ℕ) → AllDigits 10 ds → IsBare ds
bare_digits [] h = bare_nil
bare_digits (c ∷ cs) h =
    All-cons IsOther c cs (λ e. absurd (omega (arith, h.0, ap digit_value e))) (bare_digits cs h.1)

bare_two : (n : ℕ) (rest : List ℕ) → n < 100 → IsBare rest → IsBare (two n ++ rest)
bare_two n rest small more =
    let tens : 48 + n / 10 ≢ 60 = λ e. omega (arith, e, small) in
    let ones : 48 + n % 10 ≢ 60 = λ e. omega (arith, e) in
    All-cons IsOther (48 + n / 10) ((48 + n % 10) ∷ rest) tens (All-cons IsOther (48 + n % 10) rest ones more)

bare_byte : (b : ℕ) (rest : List ℕ) → b ≢ 60 → IsBare rest → IsBare (b ∷ rest)
bare_byte b rest other more = All-cons IsOther b rest other more

-- ---- codes, labels and names

-- a text of at most 16 bytes
record IsShortText (text : List ℕ) : Type 0 where
  some : 1 ≤ length text
  short : length text ≤ 16
  bare : IsBare text

code_bounds : (text : List ℕ) → IsTrue (is_code text) → (1 ≤ length text) × (length text ≤ 16)
code_bounds text h =
    let between = and_true_left _ _ h in
    (leb-true 1 (length text) (and_true_left _ _ between), leb-true (length text) 16 (and_true_right _ _ between))

label_bounds : (text : List ℕ) → IsTrue (is_label text) → (1 ≤ length text) × (length text ≤ 32)
label_bounds text h =
    let between = and_true_left _ _ h in
    (leb-true 1 (length text) (and_true_left _ _ between), leb-true (length text) 32 (and_true_right _ _ between))

pub code_is_text : (text : List ℕ) → IsTrue (is_code text) → IsFieldText text
code_is_text text h =
    let bounds = code_bounds text h in
    record {
      some = bounds.0;
      short = omega (arith, bounds.1);
      bare = bare_by is_code_byte text refl (and_true_right _ _ h);
    }

pub label_is_text : (text : List ℕ) → IsTrue (is_label text) → IsFieldText text
label_is_text text h =
    let bounds = label_bounds text h in
    record {
      some = bounds.0;
      short = omega (arith, bounds.1);
      bare = bare_by is_local_byte text refl (and_true_right _ _ h);
    }

bare_spelled : (amp lt gt : Bool) (b : ℕ) → lt ≡ (b == 60)
    → IsBare (cond amp (codes "&amp;") (cond lt (codes "&lt;") (cond gt (codes "&gt;") (b ∷ []))))
bare_spelled true lt gt b e = bare_by (λ x. not (x == 60)) (codes "&amp;") refl refl
bare_spelled false true gt b e = bare_by (λ x. not (x == 60)) (codes "&lt;") refl refl
bare_spelled false false true b e = bare_by (λ x. not (x == 60)) (codes "&gt;") refl refl
bare_spelled false false false b e = bare_byte b [] (eqb-false b 60 (sym e)) bare_nil

bare_escaped : (name : List ℕ) → IsBare (escaped name)
bare_escaped [] = bare_nil
bare_escaped (b ∷ name) =
    All-append IsOther (escaped_byte b) (escaped name) (bare_spelled (b == 38) (b == 60) (b == 62) b refl) (bare_escaped name)

spelled_short : (amp lt gt : Bool) (b : ℕ) → length (cond amp (codes "&amp;") (cond lt (codes "&lt;") (cond gt (codes "&gt;") (b ∷ [])))) ≤ 5
spelled_short true lt gt b = lit≤ tt
spelled_short false true gt b = lit≤ tt
spelled_short false false true b = lit≤ tt
spelled_short false false false b = lit≤ tt

pub escaped_short : (name : List ℕ) → length (escaped name) ≤ 5 * length name
escaped_short [] = lit≤ tt
escaped_short (b ∷ name) =
    omega (arith, length-append (escaped_byte b) (escaped name), spelled_short (b == 38) (b == 60) (b == 62) b, escaped_short name)

escaped_some : (name : List ℕ) → 1 ≤ length name → 1 ≤ length (escaped name)
escaped_some [] h = absurd (omega (arith, h))
escaped_some (b ∷ name) h = omega (arith, length-append (escaped_byte b) (escaped name), escaped_byte_some b)

pub name_is_text : (name : List ℕ) → IsTrue (is_name name) → IsFieldText (escaped name)
name_is_text name h =
    let bounds = name_bounds name h in
    record {
      some = escaped_some name bounds.0;
      short = omega (arith, escaped_short name, bounds.1);
      bare = bare_escaped name;
    }

-- ---- numbers

pub decimal_is_text : (n : ℕ) → n < 2 ^ 32 → IsFieldText (decimal n)
decimal_is_text n small =
    record {
      some = omega (arith, decimal_nonempty n (omega (arith, small)));
      short = omega (arith, length-decimal-le 10 n (omega arith) (omega (arith, small)) (omega (arith, small)));
      bare = bare_digits (decimal n) (decimal_is_IsNumeral n (omega (arith, small))).0.1;
    }

pub duration_is_text : (n : ℕ) → n < 2 ^ 32 → IsFieldText (duration_text n)
duration_is_text n small =
    let digits = decimal_is_text n small in
    record {
      some = omega arith;
      short = omega (arith, length-append (decimal n) (83 ∷ []), length-decimal-le 10 n (omega arith) (omega (arith, small)) (omega (arith, small)));
      bare = bare_byte 80 (84 ∷ decimal n ++ 83 ∷ []) (λ e. omega (arith, e))
          (bare_byte 84 (decimal n ++ 83 ∷ []) (λ e. omega (arith, e))
          (All-append IsOther (decimal n) (83 ∷ []) digits.bare (bare_byte 83 [] (λ e. omega (arith, e)) bare_nil)));
    }

-- ---- dates and moments

bare_date : (date : CalendarDate) (rest : List ℕ) → IsWritable date → IsBare rest → IsBare (date_text date ++ rest)
bare_date date rest h more =
    let day = bare_two date.day rest h.day more in
    let dash = bare_byte 45 (two date.day ++ rest) (λ e. omega (arith, e)) day in
    let month = bare_two date.month (45 ∷ (two date.day ++ rest)) h.month dash in
    let first = bare_byte 45 (two date.month ++ (45 ∷ (two date.day ++ rest))) (λ e. omega (arith, e)) month in
    let low = bare_two (date.year % 100) (45 ∷ (two date.month ++ (45 ∷ (two date.day ++ rest)))) (omega arith) first in
    bare_two (date.year / 100) (two (date.year % 100) ++ (45 ∷ (two date.month ++ (45 ∷ (two date.day ++ rest))))) (omega (arith, h.year)) low

bare_clock : (s : ℕ) → s < 86_400 → IsBare (clock_text s)
bare_clock s small =
    let last = bare_byte 90 [] (λ e. omega (arith, e)) bare_nil in
    let second = bare_two (s % 60) (90 ∷ []) (omega arith) last in
    let colon = bare_byte 58 (two (s % 60) ++ 90 ∷ []) (λ e. omega (arith, e)) second in
    let minute = bare_two (s / 60 % 60) (58 ∷ (two (s % 60) ++ 90 ∷ [])) (omega arith) colon in
    let first = bare_byte 58 (two (s / 60 % 60) ++ (58 ∷ (two (s % 60) ++ 90 ∷ []))) (λ e. omega (arith, e)) minute in
    let hour = bare_two (s / 3_600) (58 ∷ (two (s / 60 % 60) ++ (58 ∷ (two (s % 60) ++ 90 ∷ [])))) (omega (arith, small)) first in
    bare_byte 84 (two (s / 3_600) ++ (58 ∷ (two (s / 60 % 60) ++ (58 ∷ (two (s % 60) ++ 90 ∷ []))))) (λ e. omega (arith, e)) hour

written : (n : ℕ) → n ≤ 84_005 → IsWritable (date_of n)
written n small = date_is_writable (date_of n) (days_have_dates n small).0

pub day_is_text : (n : ℕ) → n ≤ 84_005 → IsFieldText (day_text n)
day_is_text n small =
    record { some = lit≤ tt; short = lit≤ tt; bare = bare_date (date_of n) [] (written n small) bare_nil }

pub moment_is_text : (n : ℕ) → n ≤ LAST_SECOND → IsFieldText (moment_text n)
moment_is_text n small =
    record {
      some = lit≤ tt;
      short = lit≤ tt;
      bare = bare_date (date_of (n / 86_400)) (clock_text (n % 86_400)) (written (n / 86_400) (omega (arith, small)))
          (bare_clock (n % 86_400) (omega arith));
    }

-- ---- one value

pub moment_text_injective : (m n : ℕ) → m ≤ LAST_SECOND → n ≤ LAST_SECOND → moment_text m ≡ moment_text n → m ≡ n
moment_text_injective m n small less e =
    let day = day_text_injective (m / 86_400) (n / 86_400) (omega (arith, small)) (omega (arith, less)) (ap (take 10) e) in
    let clock : clock_text (m % 86_400) ≡ clock_text (n % 86_400) = ap (drop 10) e in
    let hour = two_injective (m % 86_400 / 3_600) (n % 86_400 / 3_600) (ap (λ t. take 2 (drop 1 t)) clock) in
    let minute = two_injective (m % 86_400 / 60 % 60) (n % 86_400 / 60 % 60) (ap (λ t. take 2 (drop 4 t)) clock) in
    let second = two_injective (m % 86_400 % 60) (n % 86_400 % 60) (ap (λ t. take 2 (drop 7 t)) clock) in
    omega (arith, day, hour, minute, second)

append_last_injective : (xs ys : List ℕ) (c : ℕ) → xs ++ c ∷ [] ≡ ys ++ c ∷ [] → xs ≡ ys
append_last_injective xs ys c e =
    let same : length xs ≡ length ys = omega (arith, ap length e, length-append xs (c ∷ []), length-append ys (c ∷ [])) in
    sym (take-append_seam xs (c ∷ [])) ∙ ap (take (length xs)) e ∙ ap (λ k. take k (ys ++ c ∷ [])) same ∙ take-append_seam ys (c ∷ [])

pub duration_text_injective : (m n : ℕ) → m < 2 ^ 32 → n < 2 ^ 32 → duration_text m ≡ duration_text n → m ≡ n
duration_text_injective m n small less e =
    decimal_injective m n (omega (arith, small)) (omega (arith, less)) (append_last_injective (decimal m) (decimal n) 83 (ap (drop 2) e))

pub number_text_injective : (m n : ℕ) → m < 2 ^ 32 → n < 2 ^ 32 → decimal m ≡ decimal n → m ≡ n
number_text_injective m n small less e = decimal_injective m n (omega (arith, small)) (omega (arith, less)) e

-- ---- references to stops

pub stop_ref_is_text : (text : List ℕ) → IsTrue (is_stop_ref text) → IsFieldText text
stop_ref_is_text text h =
    let at = position_or_len is_colon text in
    let whole = take-append-drop at text in
    let tail = and_true_right (is_x (take at text) || is_code (take at text)) (is_tail (drop at text)) h in
    let front = front_is_text (take at text) (and_true_left _ _ h) in
    let back = tail_is_text (drop at text) tail in
    let P : List ℕ → Type 0 = λ t. IsBare t in
    let count = ap length (sym whole) ∙ length-append (take at text) (drop at text) in
    record {
      some = omega (arith, count, front.some);
      short = omega (arith, count, front.short, back.1);
      bare = subst P whole (All-append IsOther (take at text) (drop at text) front.bare back.0);
    }
  where
    by_x : (front : List ℕ) (b : Bool) → b ≡ is_x front → (b || is_code front) ≡ true → IsShortText front
    by_x front true e h =
        let P : List ℕ → Type 0 = IsShortText in
        subst P (sym ((bytes_eq-Decides front (120 ∷ [])).0 (sym e)))
        (record { some = lit≤ tt; short = lit≤ tt; bare = bare_byte 120 [] (λ x. omega (arith, x)) bare_nil })
    by_x front false e h =
        record { some = (code_bounds front h).0; short = (code_bounds front h).1; bare = (code_is_text front h).bare }

    front_is_text : (front : List ℕ) → (is_x front || is_code front) ≡ true → IsShortText front
    front_is_text front h = by_x front (is_x front) refl h

    tail_is_text : (tail : List ℕ) → is_tail tail ≡ true → IsBare tail × (length tail ≤ 33)
    tail_is_text [] h = (bare_nil, lit≤ tt)
    tail_is_text (b ∷ local) h =
        let front : (is_between 2 33 (length (b ∷ local)) && b == 58) ≡ true = and_true_left _ _ h in
        let colon : b ≡ 58 = eqb-true b 58 (and_true_right _ _ front) in
        let other : IsOther b = λ e. omega (arith, e, colon) in (
          bare_byte b local other (bare_by is_local_byte local refl (and_true_right _ _ h)),
          leb-true _ 33 (and_true_right _ _ (and_true_left _ _ front)),
        )
