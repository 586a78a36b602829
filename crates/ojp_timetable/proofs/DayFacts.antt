-- The operating day that a text spells.
use Rattle.std.proofs.Common.{◌≡◌, ℕ, zero, suc, ◌+◌, ◌≤◌, ◌<◌, false, cond, refl, sym, ◌∙◌, ap, subst, arith, inl, inr}
use Rattle.std.specs.Prelude.{Option, Some, None}
use Rattle.std.proofs.lemmas.Bool.{cases_Bool}
use Rattle.std.proofs.Math.Nat.{eq-or-lt_of_le}
use Rattle.ojp_values.specs.Dates.{day_text, operating_days}
use Rattle.ojp_values.specs.Numbers.{Reads}
use Rattle.ojp_values.specs.Texts.{Text, same}
use Rattle.ojp_values.specs.declared.moments.TheConstants.{FIRST_DAY, LAST_DAY}
use Rattle.ojp_values.proofs.Calendar.{day_text_injective}
use Rattle.ojp_timetable.specs.Said.{day_from, day_of}
use Rattle.ojp_timetable.specs.TextLaws.{DaysAreSpelled}
use Rattle.ojp_timetable.proofs.TextFacts.{differ_is, same_is}

-- the days from the first on, so many
abbrev IsOneOf : ℕ → ℕ → ℕ → Type 0
IsOneOf first days n = (first ≤ n) × (n < first + days)

from_spells : (first days : ℕ) (text : Text) → Reads (IsOneOf first days) day_text text (day_from first days text)
unfolding day_from
from_spells first zero text = λ n within e. omega (arith, within.0, within.1)
from_spells first (suc days) text =
    elim (cases_Bool (same (day_text first) text)) [
      | inl e ↦
          subst (Reads (IsOneOf first (suc days)) day_text text) (sym (ap (λ b. cond b (Some first) (day_from (first + 1) days text)) e))
          ((omega arith, omega arith), same_is (day_text first) text e)
      | inr e ↦
          subst (Reads (IsOneOf first (suc days)) day_text text) (sym (ap (λ b. cond b (Some first) (day_from (first + 1) days text)) e))
          (later (day_from (first + 1) days text) (from_spells (first + 1) days text) e)
    ]
  where
    differs : day_text first ≡ text → same (day_text first) text ≡ false → ⊥
    differs h e = differ_is (day_text first) text e h

    other : (n : ℕ) → IsOneOf first (suc days) n → day_text n ≡ text → ((k : ℕ) → IsOneOf (first + 1) days k → day_text k ≡ text → ⊥) → same (day_text first) text ≡ false → ⊥
    other n within spelled none e =
        elim (eq-or-lt_of_le within.0) [
          | inl same_day ↦ differs (ap day_text same_day ∙ spelled) e
          | inr after ↦ none n (omega (arith, after), omega (arith, within.1)) spelled
        ]

    later : (found : Option ℕ) → Reads (IsOneOf (first + 1) days) day_text text found → same (day_text first) text ≡ false → Reads (IsOneOf first (suc days)) day_text text found
    later (Some n) is e = ((omega (arith, is.0.0), omega (arith, is.0.1)), is.1)
    later None none e = λ n within spelled. other n within spelled none e

pub days_are_spelled : DaysAreSpelled
unfolding day_of
days_are_spelled text = in_range (day_from FIRST_DAY operating_days text) (from_spells FIRST_DAY operating_days text)
  where
    in_range : (found : Option ℕ) → Reads (IsOneOf FIRST_DAY operating_days) day_text text found → Reads (λ n. (FIRST_DAY ≤ n) × (n ≤ LAST_DAY)) day_text text found
    in_range (Some n) is = ((is.0.0, omega (arith, is.0.1)), is.1)
    in_range None none = λ n within spelled. none n (within.0, omega (arith, within.1)) spelled

-- what is read of a text is what it spells
pub one_reading : (text : Text) (x y : Option ℕ) → Reads (λ n. (FIRST_DAY ≤ n) × (n ≤ LAST_DAY)) day_text text x → Reads (λ n. (FIRST_DAY ≤ n) × (n ≤ LAST_DAY)) day_text text y → x ≡ y
one_reading text None None none other = refl
one_reading text None (Some n) none is = absurd (none n is.0 is.1)
one_reading text (Some n) None is none = absurd (none n is.0 is.1)
one_reading text (Some m) (Some n) is other =
    ap Some (day_text_injective m n (omega (arith, is.0.1)) (omega (arith, other.0.1)) (is.1 ∙ sym other.1))
