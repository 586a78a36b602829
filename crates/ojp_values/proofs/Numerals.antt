-- Numbers by their digits and by their decimal texts.
use Rattle.std.proofs.Common.{◌≡◌, ℕ, zero, suc, ◌≤◌, ◌<◌, ◌^◌, ◌==◌, ◌||◌, Bool, true, false, not, true≢false, List, [], ◌∷◌, Option, Some, None, MatchOption, length, get_or, refl, sym, ◌∙◌, ap, arith, fold, lit<, inl, inr}
use Rattle.std.specs.List.{list_all}
use Rattle.std.specs.Char.{is_ascii_digit}
use Rattle.std.specs.Fmt.{decimal}
use Rattle.std.proofs.lemmas.Bool.{leb-true, le-leb, eqb-true, eq-eqb, cases_Bool, and_from}
use Rattle.std.proofs.lemmas.Fmt.{decimal-digits_value, decimal_digit, decimal_is_IsNumeral, decimal_nonempty, first_decimal}
use Rattle.std.proofs.lemmas.Str.Parse.{FoldsDigits, IsDigitsTest, IsNumeralModel, numerals_by_fold}
use Rattle.ojp_values.specs.Numbers.{Reads, is_plain, number, with_digit}
use Rattle.ojp_values.specs.Texts.{Text}
use Rattle.ojp_values.proofs.Escapes.{and_true_left, and_true_right}

pub fold-ge : (digits : List ℕ) (n : ℕ) → n ≤ fold with_digit n digits
fold-ge [] n = omega arith
fold-ge (d ∷ digits) n = omega (arith, fold-ge digits (with_digit n d))

-- ---- the words of this crate are those of decimal texts

abbrev AreDigits : Text → Type 0
AreDigits text = list_all is_ascii_digit text ≡ true

abbrev after : ℕ → Text → ℕ
after n text = fold with_digit n text

tells : IsDigitsTest AreDigits
tells = record {
  empty = refl;
  parts = λ c cs e.
      let digit = and_true_left _ _ e in
      ((leb-true 48 c (and_true_left _ _ digit), leb-true c 57 (and_true_right _ _ digit)), and_true_right _ _ e);
  more = λ c cs k e. and_from _ _ (and_from _ _ (le-leb 48 c k.0) (le-leb c 57 k.1)) e;
}

folds : FoldsDigits after
folds = record {
  empty = λ n. refl;
  more = λ n c cs k. ap (λ (m : ℕ). fold with_digit m cs) (omega arith);
}

numerals : IsNumeralModel AreDigits (after 0)
numerals = numerals_by_fold AreDigits tells after folds

-- ---- a text without leading zeros is the decimal text of its number

or_known : (a b : Bool) → (a || not b) ≡ true → b ≡ true → a ≡ true
or_known true b h k = refl
or_known false true h k = absurd (true≢false (sym h))
or_known false false h k = absurd (true≢false (sym k))

not_zero : (n : ℕ) → not (n == 0) ≡ true → 0 < n
not_zero zero h = absurd (true≢false (sym h))
not_zero (suc n) h = omega arith

pub decimal_of : (text : Text) → is_plain text ≡ true → number text < 2 ^ 64 → decimal (number text) ≡ text
unfolding number
decimal_of text h small =
    let digits = and_true_left _ _ h in
    decimal-digits_value numerals text (and_true_right _ _ digits) (not_zero (length text) (and_true_left _ _ digits))
    (λ e. eqb-true (length text) 1 (or_known _ _ (and_true_right _ _ h) (eq-eqb (get_or text 0 0) 48 e))) small

-- ---- a number is that of its decimal text

pub number_of : (n : ℕ) → n < 2 ^ 64 → number (decimal n) ≡ n
unfolding number
number_of n small =
    let numeral = decimal_is_IsNumeral n small in
    numerals.same (decimal n) numeral.0.1 ∙ numeral.1

first_digit : (n : ℕ) → n < 2 ^ 64 → (length (decimal n) == 1 || not (get_or (decimal n) 0 0 == 48)) ≡ true
first_digit zero small = ap (λ (t : Text). length t == 1 || not (get_or t 0 0 == 48)) (decimal_digit 0 (lit< tt))
first_digit (suc n) small = by_test (get_or (decimal (suc n)) 0 0) (length (decimal (suc n)) == 1) (first_decimal (suc n) (omega arith) small)
  where
    by_test : (d : ℕ) (b : Bool) → 48 < d → (b || not (d == 48)) ≡ true
    by_test d true h = refl
    by_test d false h =
        elim (cases_Bool (d == 48)) [ inl e ↦ absurd (omega (arith, h, eqb-true d 48 e)) | inr e ↦ ap not e ]

some_length : (n : ℕ) → 0 < n → not (n == 0) ≡ true
some_length n h = elim (cases_Bool (n == 0)) [ inl e ↦ absurd (omega (arith, h, eqb-true n 0 e)) | inr e ↦ ap not e ]

pub plain_of : (n : ℕ) → n < 2 ^ 64 → is_plain (decimal n) ≡ true
plain_of n small =
    let numeral = decimal_is_IsNumeral n small in
    and_from _ _ (and_from _ _ (some_length _ (decimal_nonempty n small)) (numerals.from (decimal n) numeral.0.1)) (first_digit n small)

-- ---- a number below 2^32 is read

pub not_plain : (text : Text) → is_plain text ≡ false → (n : ℕ) → n < 2 ^ 32 → decimal n ≡ text → ⊥
not_plain text fails n small spelled = true≢false (sym (plain_of n (omega (arith, small))) ∙ (ap is_plain spelled ∙ fails))

pub plain_read : (text : Text) (found : Option ℕ) → is_plain text ≡ true
    → MatchOption found (4_294_967_295 < number text) (λ n. (n ≡ number text) × (n ≤ 4_294_967_295)) → Reads (λ n. n < 2 ^ 32) decimal text found
plain_read text (Some n) plain is = (omega (arith, is.1), ap decimal is.0 ∙ decimal_of text plain (omega (arith, is.0, is.1)))
plain_read text None plain large = λ n small spelled. omega (arith, large, small, ap number spelled, number_of n (omega (arith, small)))
