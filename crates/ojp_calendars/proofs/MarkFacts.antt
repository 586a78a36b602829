-- What is left of a set of days while its boxes are found.
use Rattle.std.proofs.Common.{◌≡◌, ℕ, ◌+◌, ◌<◌, Bool, true, false, true≢false, List, length, set, sym, ◌∙◌, ap, subst, inl, inr, arith}
use Rattle.std.proofs.lemmas.Bool.{cases_eq}
use Rattle.std.proofs.lemmas.List.{get_or-set_other, get_or-set_same, length-set}
use Rattle.ojp_calendars.specs.Marks.{Clears, Reaches, marked, on}

-- ---- where a box ends

pub reaches_one : (first : ℕ) (left weekdays : List Bool) (index : ℕ) → index < length left → marked left index ≡ true → Reaches first left weekdays index (index + 1)
reaches_one first left weekdays index h e = record {
  from = omega arith;
  to = omega (arith, h);
  each = λ i low high on. ap (λ (k : ℕ). marked left k) (omega (arith, low, high)) ∙ e;
}

pub reaches_more : (first : ℕ) (left weekdays : List Bool) (index next : ℕ) → Reaches first left weekdays index next → next < length left
    → (on first weekdays next ≡ true → marked left next ≡ true) → Reaches first left weekdays index (next + 1)
reaches_more first left weekdays index next h inside fits = record {
  from = omega (arith, h.from);
  to = omega (arith, inside);
  each = λ i low high is.
      elim (cases_eq i next) [
        | inl same ↦ subst (λ (k : ℕ). on first weekdays k ≡ true → marked left k ≡ true) (sym same) fits is
        | inr other ↦ h.each i low (omega (arith, high, other)) is
      ];
}

-- ---- the days of a box are cleared

pub clears_one : (first : ℕ) (old weekdays : List Bool) (index : ℕ) → index < length old → on first weekdays index ≡ true
    → Clears first old (set old index false) weekdays index (index + 1) index
clears_one first old weekdays index h is = record {
  count = length-set old index false;
  from = omega arith;
  to = omega arith;
  last_on = is;
  behind = λ i low high. absurd (omega (arith, low, high));
  cleared = λ i low high is.
      ap (λ (k : ℕ). marked (set old index false) k) (omega (arith, low, high)) ∙ get_or-set_same old index false false h;
  others = λ i away. elim away [
    | inl low ↦ get_or-set_other old index i false false (λ e. absurd (omega (arith, low, e)))
    | inr rest ↦ elim rest [
      | inl high ↦ get_or-set_other old index i false false (λ e. absurd (omega (arith, high, e)))
      | inr off ↦ get_or-set_other old index i false false (λ e. true≢false (sym is ∙ (ap (λ (k : ℕ). on first weekdays k) (sym e) ∙ off)))
    ]
  ];
}

pub clears_on : (first : ℕ) (old new weekdays : List Bool) (index next last : ℕ) → Clears first old new weekdays index next last
    → next < length new → on first weekdays next ≡ true → Clears first old (set new next false) weekdays index (next + 1) next
clears_on first old new weekdays index next last h inside is = record {
  count = length-set new next false ∙ h.count;
  from = omega (arith, h.from, h.to);
  to = omega arith;
  last_on = is;
  behind = λ i low high. absurd (omega (arith, low, high));
  cleared = λ i low high here. elim (cases_eq i next) [
    | inl same ↦ ap (λ (k : ℕ). marked (set new next false) k) same ∙ get_or-set_same new next false false inside
    | inr other ↦ get_or-set_other new next i false false other ∙ h.cleared i low (omega (arith, high, other)) here
  ];
  others = λ i away. elim away [
    | inl low ↦ get_or-set_other new next i false false (λ e. absurd (omega (arith, low, e, h.from, h.to))) ∙ h.others i (inl low)
    | inr rest ↦ elim rest [
      | inl high ↦ get_or-set_other new next i false false (λ e. absurd (omega (arith, high, e))) ∙ h.others i (inr (inl (omega (arith, high))))
      | inr off ↦ get_or-set_other new next i false false (λ e. true≢false (sym is ∙ (ap (λ (k : ℕ). on first weekdays k) (sym e) ∙ off))) ∙ h.others i (inr (inr off))
    ]
  ];
}

pub clears_off : (first : ℕ) (old new weekdays : List Bool) (index next last : ℕ) → Clears first old new weekdays index next last
    → on first weekdays next ≡ false → Clears first old new weekdays index (next + 1) last
clears_off first old new weekdays index next last h is = record {
  count = h.count;
  from = h.from;
  to = omega (arith, h.to);
  last_on = h.last_on;
  behind = λ i low high. elim (cases_eq i next) [
    | inl same ↦ ap (λ (k : ℕ). on first weekdays k) same ∙ is
    | inr other ↦ h.behind i low (omega (arith, high, other))
  ];
  cleared = λ i low high here. elim (cases_eq i next) [
    | inl same ↦ absurd (true≢false (sym here ∙ (ap (λ (k : ℕ). on first weekdays k) same ∙ is)))
    | inr other ↦ h.cleared i low (omega (arith, high, other)) here
  ];
  others = λ i away. elim away [
    | inl low ↦ h.others i (inl low)
    | inr rest ↦ elim rest [
      | inl high ↦ h.others i (inr (inl (omega (arith, high))))
      | inr off ↦ h.others i (inr (inr off))
    ]
  ];
}
