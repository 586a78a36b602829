-- A file has one refusal, and the text of a timetable none.
use Rattle.std.proofs.Common.{◌≡◌, ℕ, ◌-◌, ◌<◌, ◌≤◌, ◌⊎◌, inl, inr, true, false, nat_lt, sym, ◌∙◌, ap, arith}
use Rattle.std.specs.Prelude.{Option, Some, None}
use Rattle.std.proofs.lemmas.Bool.{cases_Bool}
use Rattle.std.proofs.lemmas.Bool.Decides.{nat_tests}
use Rattle.std.proofs.Math.Nat.{eq-or-lt_of_le}
use Rattle.ojp_values.specs.Texts.{Text}
use Rattle.ojp_timetable.specs.Tables.{Timetable}
use Rattle.ojp_timetable.specs.TableText.{IsTextRefused, IsText, fault_at, lines_of}
use Rattle.ojp_timetable.specs.declared.file.lines.TableReason.{TableReason}

is_below : (n m : ℕ) → nat_lt n m ≡ true → n < m
is_below n m h = grind (arith, nat_tests)

is_not_below : (n m : ℕ) → nat_lt n m ≡ false → m ≤ n
is_not_below n m h = grind (arith, nat_tests)

pub lt_or_le : (n m : ℕ) → (n < m) ⊎ (m ≤ n)
lt_or_le n m = elim (cases_Bool (nat_lt n m)) [ inl e ↦ inl (is_below n m e) | inr e ↦ inr (is_not_below n m e) ]

-- numbers of which none is before another are the same
pub neither : (n m : ℕ) → (n < m → ⊥) → (m < n → ⊥) → n ≡ m
neither n m h k = elim (lt_or_le n m) [
  | inl l ↦ absurd (h l)
  | inr l ↦ elim (eq-or-lt_of_le l) [ inl e ↦ sym e | inr b ↦ absurd (k b) ]
]

not_both : (o : Option TableReason) (reason : TableReason) → o ≡ None → o ≡ Some reason → ⊥
not_both o reason none some = absurd (cc)

-- no refusal comes above another
not_above : (bytes : Text) (line other : ℕ) (reason why : TableReason) → IsTextRefused bytes line reason → IsTextRefused bytes other why → line < other → ⊥
not_above bytes line other reason why first second h =
    not_both (fault_at (lines_of bytes) (line - 1)) reason (second.above.passed (line - 1) (omega (arith, first.counted))) first.here

one_line : (bytes : Text) (line other : ℕ) (reason why : TableReason) → IsTextRefused bytes line reason → IsTextRefused bytes other why → line ≡ other
one_line bytes line other reason why first second =
    neither line other (not_above bytes line other reason why first second) (not_above bytes other line why reason second first)

some_is : (x y : TableReason) → Some x ≡ Some y → x ≡ y
some_is x y e = cc

pub one_refusal : (bytes : Text) (line other : ℕ) (reason why : TableReason) → IsTextRefused bytes line reason → IsTextRefused bytes other why → (line ≡ other) × (reason ≡ why)
one_refusal bytes line other reason why first second =
    let e = one_line bytes line other reason why first second in
    (e, some_is reason why (sym first.here ∙ (ap (λ (k : ℕ). fault_at (lines_of bytes) (k - 1)) e ∙ second.here)))

pub text_not_refused : (bytes : Text) (table : Timetable) (line : ℕ) (reason : TableReason) → IsText bytes table → IsTextRefused bytes line reason → ⊥
text_not_refused bytes table line reason text refused =
    not_both (fault_at (lines_of bytes) (line - 1)) reason (text.passed.passed (line - 1) (omega (arith, refused.counted, refused.within))) refused.here
