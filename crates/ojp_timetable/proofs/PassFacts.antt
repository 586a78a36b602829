-- Reading one line more.
use Rattle.std.proofs.Common.{◌≡◌, ℕ, zero, suc, ◌+◌, ◌-◌, ◌<◌, ◌≤◌, inl, inr, Bool, true, false, cond, nat_lt, ◌==◌, List, [], ◌∷◌, ◌++◌, length, take, drop, get_or, refl, sym, ◌∙◌, ap, subst, arith, fold, add-one, length-drop}
use Rattle.std.specs.Prelude.{Some, None, Ok, Err}
use Rattle.std.proofs.lemmas.List.{take_all}
use Rattle.std.proofs.Math.Nat.{eq-or-lt_of_le}
use Rattle.std.proofs.lemmas.Bool.Decides.{nat_tests}
use Rattle.std.proofs.lemmas.List.Sums.{fold_push}
use Rattle.ojp_values.specs.Texts.{Text}
use Rattle.ojp_timetable.specs.Lines.{Above, no_lines}
use Rattle.ojp_timetable.specs.Checks.{is_cut, read_line}
use Rattle.ojp_timetable.specs.Refusals.{IsLineRefusal, IsRefusal, refusal_of}
use Rattle.ojp_timetable.specs.declared.file.lines.TableReason.TheVariants.{LineForm}
use Rattle.ojp_timetable.specs.declared.file.refusals.LineRefused.{LineRefused}
use Rattle.ojp_timetable.specs.declared.file.refusals.LineRefused.TheVariants.{Reason, NoMemory}
use Rattle.ojp_timetable.specs.TableText.{ArePassed, IsTextRefused, lines_of, above_of, fault_at, fault_at_end, reason_of, with_line, with_said}
use Rattle.ojp_timetable.specs.Said.{Said}

-- the line that is next, and what is left
pub record IsNext (all : List Text) (n : ℕ) (line : Text) (more : List Text) : Type 0 where
  pub within : n < length all
  pub at : (d : Text) → get_or all n d ≡ line
  pub left : drop (n + 1) all ≡ more
  pub taken : take (n + 1) all ≡ take n all ++ line ∷ []

next_at : (all : List Text) (n : ℕ) (line : Text) (more : List Text) → drop n all ≡ line ∷ more
    → (n < length all) × ((d : Text) → get_or all n d ≡ line) × (drop (suc n) all ≡ more) × (take (suc n) all ≡ take n all ++ line ∷ [])
next_at [] zero line more h = absurd (cc)
next_at [] (suc n) line more h = absurd (cc)
next_at (x ∷ xs) zero line more h = (omega arith, λ d. cc, cc, cc)
next_at (x ∷ xs) (suc n) line more h =
    let r = next_at xs n line more h in
    (omega (arith, r.0), r.1, r.2, ap (λ (t : List Text). x ∷ t) r.3)

pub is_next : (all : List Text) (n : ℕ) (line : Text) (more : List Text) → drop n all ≡ line ∷ more → IsNext all n line more
is_next all n line more h =
    let r = next_at all n line more h in
    record { within = r.0; at = r.1; left = rw add-one r.2; taken = rw add-one r.3 }

-- what one line more makes
pub above_of-more : (all : List Text) (n : ℕ) (line : Text) (more : List Text) → IsNext all n line more → with_line (above_of (take n all)) line ≡ above_of (take (n + 1) all)
unfolding above_of
above_of-more all n line more next =
    sym (fold_push with_line no_lines (take n all) line) ∙ ap (λ (lines : List Text). fold with_line no_lines lines) (sym next.taken)

below : (n m : ℕ) → n < m → nat_lt n m ≡ true
below n m h = grind (arith, nat_tests)

not_below : (n m : ℕ) → m ≤ n → nat_lt n m ≡ false
not_below n m h = grind (arith, nat_tests)

-- the fault of the line that is next
pub fault_at-next : (all : List Text) (n : ℕ) (line : Text) (more : List Text) → IsNext all n line more → fault_at all n ≡ reason_of (read_line (above_of (take n all)) line)
unfolding fault_at
fault_at-next all n line more next =
    ap (λ (b : Bool). cond b (reason_of (read_line (above_of (take n all)) (get_or all n []))) (fault_at_end (above_of all))) (below n (length all) next.within)
    ∙ ap (λ (text : Text). reason_of (read_line (above_of (take n all)) text)) (next.at [])

-- and of the end
pub fault_at-end : (all : List Text) (n : ℕ) → length all ≤ n → fault_at all n ≡ fault_at_end (above_of all)
unfolding fault_at
fault_at-end all n h =
    ap (λ (b : Bool). cond b (reason_of (read_line (above_of (take n all)) (get_or all n []))) (fault_at_end (above_of all))) (not_below n (length all) h)

pub passed-more : (all : List Text) (n : ℕ) → ArePassed all n → fault_at all n ≡ None → ArePassed all (n + 1)
passed-more all n old here = record {
  passed = λ k low. elim (eq-or-lt_of_le (below_next k n low)) [
    | inl e ↦ ap (fault_at all) e ∙ here
    | inr l ↦ old.passed k l
  ];
}
  where
    below_next : (k n : ℕ) → k < n + 1 → k ≤ n
    below_next k n h = omega arith

pub none_passed : (all : List Text) → ArePassed all 0
none_passed all = record { passed = λ k low. absurd (omega arith) }

-- the line that is next is refused for its reason, below those that passed
pub refused_here : (bytes : Text) (n : ℕ) (line : Text) (more : List Text) (refused : LineRefused) → IsNext (lines_of bytes) n line more → ArePassed (lines_of bytes) n
    → IsLineRefusal (read_line (above_of (take n (lines_of bytes))) line) refused → IsRefusal bytes (refusal_of refused (n + 1))
refused_here bytes n line more (Reason reason) next passed h =
    let e : n + 1 - 1 ≡ n = omega arith in
    record {
      above = subst (ArePassed (lines_of bytes)) (sym e) passed;
      here = ap (fault_at (lines_of bytes)) e ∙ (fault_at-next (lines_of bytes) n line more next ∙ h);
      counted = omega arith;
      within = omega (arith, next.within);
    }
refused_here bytes n line more NoMemory next passed h = tt

-- the end is refused where the file may not end there
pub refused_at_end : (bytes : Text) (n : ℕ) → length (lines_of bytes) ≡ n → ArePassed (lines_of bytes) n → is_cut (above_of (lines_of bytes)) ≡ true → IsTextRefused bytes (n + 1) LineForm
refused_at_end bytes n size passed cut =
    let e : n + 1 - 1 ≡ n = omega arith in
    record {
      above = subst (ArePassed (lines_of bytes)) (sym e) passed;
      here = ap (fault_at (lines_of bytes)) e ∙ (fault_at-end (lines_of bytes) n (omega (arith, size)) ∙ ap (λ (b : Bool). cond b (Some LineForm) None) cut);
      counted = omega arith;
      within = omega (arith, size);
    }

-- all is passed where the file may end there
pub passed_all : (bytes : Text) (n : ℕ) → length (lines_of bytes) ≡ n → ArePassed (lines_of bytes) n → is_cut (above_of (lines_of bytes)) ≡ false → ArePassed (lines_of bytes) (n + 1)
passed_all bytes n size passed cut =
    passed-more (lines_of bytes) n passed
    (fault_at-end (lines_of bytes) n (omega (arith, size)) ∙ ap (λ (b : Bool). cond b (Some LineForm) None) cut)

-- nothing is left where all lines are read
drop_none : (all : List Text) (n : ℕ) → drop n all ≡ [] → length all ≤ n
drop_none all n h = omega (arith, length-drop n all, ap length h)

pub all_read : (all : List Text) (n : ℕ) → drop n all ≡ [] → n ≤ length all → (length all ≡ n) × (take n all ≡ all)
all_read all n h k = let low : length all ≤ n = drop_none all n h in (omega arith, take_all n all low)

-- no text has no lines
none_left : (text : Text) → length text ≡ 0 → lines_of text ≡ []
unfolding lines_of
none_left [] h = refl
none_left (b ∷ bytes) h = absurd (omega (arith, h))

is_zero : (n : ℕ) → (n == 0) ≡ true → n ≡ 0
is_zero n h = grind (arith, nat_tests)

pub no_text : (text : Text) → (length text == 0) ≡ true → lines_of text ≡ []
no_text text h = none_left text (is_zero (length text) h)

-- a line that passes is counted
counts : (above : Above) (text : Text) (said : Said) → reason_of said ≡ None → (with_said above text said).lines ≡ above.lines + 1
counts above text (Ok line) h = refl
counts above text (Err reason) h = absurd (cc)

pub counted : (above : Above) (text : Text) → reason_of (read_line above text) ≡ None → (with_line above text).lines ≡ above.lines + 1
counted above text h = counts above text (read_line above text) h
