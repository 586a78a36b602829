-- Bytes that are full, by the count of their lines.
use Rattle.std.proofs.Common.{◌≡◌, ℕ, ◌+◌, ◌≤◌, Bool, true, false, not, ◌&&◌, List, [], ◌∷◌, length, refl, sym, ap, ◌∙◌, arith, inl, inr, subst, nat_le, if◌then◌else◌}
use Rattle.std.specs.Prelude.{◌==◌}
use Rattle.ojp_http.specs.declared.count.Begun.TheVariants.{Nothing, Return, Other}
use Rattle.ojp_http.specs.declared.count.Begun.{Begun}
use Rattle.ojp_http.specs.declared.count.LineCount.{LineCount}
use Rattle.ojp_http.specs.LineCounts.{no_lines, count_step, count_from, is_full_by, end_by, begun_step}
use Rattle.ojp_http.specs.Heads.{counted_lines, IsFullAt}
use Rattle.ojp_http.proofs.CountFacts.{are_filled, counts}
use Rattle.std.proofs.lemmas.Bool.{and_from, and_parts, both_ways, le-leb, leb-true, or_cases, or_parts}

not_not : (b : Bool) → not (not b) ≡ b
not_not true = refl
not_not false = refl

-- full by the count is full
pub full_by : (most : ℕ) (bytes : List ℕ) (s : LineCount) → s ≡ count_from no_lines bytes → is_full_by most (length bytes) s ≡ true → IsFullAt most bytes
full_by most bytes s is full =
    let c = counts bytes in
    elim (or_cases (nat_le 16384 (length bytes)) (nat_le most s.counted && not s.has_empty) full) [
      | inl long ↦ inl (leb-true 16384 (length bytes) long)
      | inr lined ↦
          let two = and_parts (nat_le most s.counted) (not s.has_empty) lined in
          inr (
            subst (λ (n : ℕ). most ≤ n) (ap (λ (v : LineCount). v.counted) is ∙ c.1.counted) (leb-true most s.counted two.0),
            sym (not_not (are_filled (counted_lines bytes))) ∙ ap not (sym (ap (λ (v : LineCount). v.has_empty) is ∙ c.1.has_empty)) ∙ two.1,
          )
    ]

-- what is not full by the count is not full
pub not_full_by : (most : ℕ) (bytes : List ℕ) (s : LineCount) → s ≡ count_from no_lines bytes → is_full_by most (length bytes) s ≡ false → ¬ (IsFullAt most bytes)
not_full_by most bytes s is shut full =
    let c = counts bytes in
    elim full [
      | inl long ↦ absurd (both_ways _ (or_parts (nat_le 16384 (length bytes)) (nat_le most s.counted && not s.has_empty) shut).0 (le-leb 16384 (length bytes) long))
      | inr lined ↦
          let few = le-leb most s.counted (subst (λ (n : ℕ). most ≤ n) (sym (ap (λ (v : LineCount). v.counted) is ∙ c.1.counted)) lined.0) in
          let none : not s.has_empty ≡ true = ap not (ap (λ (v : LineCount). v.has_empty) is ∙ c.1.has_empty) ∙ not_not (are_filled (counted_lines bytes)) ∙ lined.1 in
          absurd (both_ways _ (or_parts (nat_le 16384 (length bytes)) (nat_le most s.counted && not s.has_empty) shut).1 (and_from (nat_le most s.counted) (not s.has_empty) few none))
    ]

abbrev counted_of : LineCount → ℕ
counted_of s = s.counted

first_line : (t : Bool) (n : ℕ) (e : Bool) → counted_of (if t then (record { begun = Nothing; counted = 0; has_empty = e }) else (record { begun = Nothing; counted = n + 1; has_empty = true })) ≤ n + 1
first_line true n e = omega arith
first_line false n e = omega arith

ended : (b : Begun) (n : ℕ) (e : Bool) → (end_by b n e).counted ≤ n + 1
ended Nothing n e = first_line (n == 0) n e
ended Return n e = first_line (n == 0) n e
ended Other n e = omega arith

-- each byte adds at most one line
pub counted_step : (s : LineCount) (b : ℕ) → (count_step s b).counted ≤ s.counted + 1
counted_step s b = elim (b == 10) as
    (λ t. counted_of (if t then end_by s.begun s.counted s.has_empty else record { begun = begun_step s.begun b; counted = s.counted; has_empty = s.has_empty }) ≤ s.counted + 1) [
      | true ↦ ended s.begun s.counted s.has_empty
      | false ↦ omega arith
    ]

pub counted_from : (bytes : List ℕ) (s : LineCount) → (count_from s bytes).counted ≤ s.counted + length bytes
counted_from [] s = omega arith
counted_from (b ∷ bytes) s = omega (arith, counted_from bytes (count_step s b), counted_step s b)
