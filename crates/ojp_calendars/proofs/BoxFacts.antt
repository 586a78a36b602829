-- The boxes that a sweep gives make up the set.
use Rattle.std.proofs.Common.{◌≡◌, ℕ, ◌+◌, ◌-◌, ◌<◌, ◌≤◌, Bool, true, false, true≢false, cond, ◌&&◌, List, [], ◌∷◌, ◌++◌, length, get_or, refl, sym, ◌∙◌, ap, subst, inl, inr, ◌⊎◌, arith}
use Rattle.std.specs.Prelude.{nat_le}
use Rattle.std.specs.List.{sum_by}
use Rattle.std.proofs.lemmas.Bool.{cases_eq, cases_lt, cases_Bool, le-leb, lt-leb}
use Rattle.std.proofs.lemmas.List.{get_or_past}
use Rattle.std.proofs.lemmas.List.Elements.{All-push}
use Rattle.std.proofs.lemmas.List.Sums.{sum_by-append}
use Rattle.ojp_calendars.specs.Days.{IsTight, boxes_over, covers, has_day, weekday}
use Rattle.ojp_calendars.specs.Marks.{AreBoxes, Clears, Reaches, Swept, marked, on}
use Rattle.ojp_calendars.specs.declared.day_box.DayBox.{DayBox}

-- ---- days of a set by their numbers in it

has_at : (first : ℕ) (marks : List Bool) (i : ℕ) → has_day first marks (first + i) ≡ marked marks i
unfolding has_day
has_at first marks i =
    ap (λ (b : Bool). b && get_or marks (first + i - first) false) (le-leb first (first + i) (omega arith))
    ∙ ap (λ (k : ℕ). get_or marks k false) (omega arith)

has_before : (first : ℕ) (marks : List Bool) (day : ℕ) → day < first → has_day first marks day ≡ false
unfolding has_day
has_before first marks day h = ap (λ (b : Bool). b && get_or marks (day - first) false) (lt-leb first day h)

-- ---- days under a box

abbrev pub box_of : ℕ → ℕ → ℕ → List Bool → DayBox
box_of first index last weekdays = record { first = first + index; last = first + last; weekdays = weekdays }

covers_in : (first index last i : ℕ) (weekdays : List Bool) → index ≤ i → i ≤ last → covers (box_of first index last weekdays) (first + i) ≡ on first weekdays i
unfolding covers
covers_in first index last i weekdays low high =
    ap (λ (b : Bool). b && nat_le (first + i) (first + last) && on first weekdays i) (le-leb (first + index) (first + i) (omega (arith, low)))
    ∙ ap (λ (b : Bool). b && on first weekdays i) (le-leb (first + i) (first + last) (omega (arith, high)))

covers_low : (first index last day : ℕ) (weekdays : List Bool) → day < first + index → covers (box_of first index last weekdays) day ≡ false
unfolding covers
covers_low first index last day weekdays low =
    ap (λ (b : Bool). b && nat_le day (first + last) && get_or weekdays (weekday day) false) (lt-leb (first + index) day low)

covers_high : (first index last day : ℕ) (weekdays : List Bool) → index ≤ last → first + last < day → covers (box_of first index last weekdays) day ≡ false
unfolding covers
covers_high first index last day weekdays within high =
    ap (λ (b : Bool). b && nat_le day (first + last) && get_or weekdays (weekday day) false) (le-leb (first + index) day (omega (arith, within, high)))
    ∙ ap (λ (b : Bool). b && get_or weekdays (weekday day) false) (lt-leb day (first + last) high)

-- ---- a day is left, or under the box

same : (c n o : Bool) → c ≡ false → n ≡ o → cond c 1 0 + cond n 1 0 ≡ cond o 1 0
same false true true e f = refl
same false false false e f = refl
same false true false e f = absurd (true≢false f)
same false false true e f = absurd (true≢false (sym f))
same true n o e f = absurd (true≢false e)

taken : (c n o : Bool) → c ≡ true → n ≡ false → o ≡ true → cond c 1 0 + cond n 1 0 ≡ cond o 1 0
taken true false true e f g = refl
taken c true o e f g = absurd (true≢false f)
taken false false o e f g = absurd (true≢false (sym e))
taken true false false e f g = absurd (true≢false (sym g))

abbrev Shares : ℕ → List Bool → List Bool → DayBox → ℕ → Type 0
Shares first old new days day = cond (covers days day) 1 0 + cond (has_day first new day) 1 0 ≡ cond (has_day first old day) 1 0

module _ (first : ℕ) (old new weekdays : List Bool) (index end last : ℕ) (reach : Reaches first old weekdays index end) (clear : Clears first old new weekdays index end last) where
  abbrev days : DayBox
  days = box_of first index last weekdays

  -- a day that the box is not over is left as it was
  kept : (i : ℕ) → covers days (first + i) ≡ false → (i < index) ⊎ ((end ≤ i) ⊎ (on first weekdays i ≡ false)) → Shares first old new days (first + i)
  kept i off away = same _ _ _ off (has_at first new i ∙ (clear.others i away ∙ sym (has_at first old i)))

  shares_high : (i : ℕ) → last < i → (i < end) ⊎ (end ≤ i) → Shares first old new days (first + i)
  shares_high i h (inr past) = kept i (covers_high first index last (first + i) weekdays clear.from (omega (arith, h))) (inr (inl past))
  shares_high i h (inl before) =
      kept i (covers_high first index last (first + i) weekdays clear.from (omega (arith, h))) (inr (inr (clear.behind i h before)))

  shares_in : (i : ℕ) → index ≤ i → i ≤ last → (on first weekdays i ≡ true) ⊎ (on first weekdays i ≡ false) → Shares first old new days (first + i)
  shares_in i low high (inl is) =
      let before : i < end = omega (arith, high, clear.to) in
      taken _ _ _ (covers_in first index last i weekdays low high ∙ is) (has_at first new i ∙ clear.cleared i low before is)
      (has_at first old i ∙ reach.each i low before is)
  shares_in i low high (inr off) = kept i (covers_in first index last i weekdays low high ∙ off) (inr (inr off))

  shares_at : (i : ℕ) → Shares first old new days (first + i)
  shares_at i = elim (cases_lt i index) [
    | inl low ↦ kept i (covers_low first index last (first + i) weekdays (omega (arith, low))) (inl low)
    | inr from ↦ elim (cases_lt last i) [
      | inl high ↦ shares_high i high (cases_lt i end)
      | inr to ↦ shares_in i from to (cases_Bool (on first weekdays i))
    ]
  ]

  pub shares : (day : ℕ) → Shares first old new days day
  shares day = elim (cases_lt day first) [
    | inl before ↦ same _ _ _ (covers_low first index last day weekdays (omega (arith, before)))
        (has_before first new day before ∙ sym (has_before first old day before))
    | inr from ↦ subst (λ (d : ℕ). Shares first old new days d) (omega (arith, from)) (shares_at (day - first))
  ]

  tight : on first weekdays index ≡ true → IsTight days
  tight is =
      (covers_in first index last index weekdays (omega arith) clear.from ∙ is, covers_in first index last last weekdays clear.from (omega arith) ∙ clear.last_on)

-- ---- the sweep

zero_more : (n : ℕ) → 0 + n ≡ n
zero_more n = omega arith

over_more : (day : ℕ) (boxes : List DayBox) (b : DayBox) → boxes_over day (boxes ++ b ∷ []) ≡ boxes_over day boxes + cond (covers b day) 1 0
unfolding boxes_over
over_more day boxes b =
    sum_by-append (λ (x : DayBox). cond (covers x day) 1 0) boxes (b ∷ [])
    ∙ ap (λ (n : ℕ). sum_by (λ (x : DayBox). cond (covers x day) 1 0) boxes + n) (zero_more (cond (covers b day) 1 0))

pub swept_none : (first : ℕ) (marks : List Bool) → Swept first marks marks [] 0
unfolding boxes_over
swept_none first marks = record {
  count = refl;
  exact = λ day. omega arith;
  done = λ i h. absurd (omega (arith, h));
  tight = λ k d h. absurd (omega (arith, h));
}

pub swept_off : (first : ℕ) (left : List Bool) (boxes : List DayBox) (index : ℕ) (marks : List Bool) → marked left index ≡ false
    → Swept first marks left boxes index → Swept first marks left boxes (index + 1)
swept_off first left boxes index marks off h = record {
  count = h.count;
  exact = h.exact;
  done = λ i low. elim (cases_eq i index) [
    | inl e ↦ ap (λ (k : ℕ). marked left k) e ∙ off
    | inr other ↦ h.done i (omega (arith, low, other))
  ];
  tight = h.tight;
}

pub swept_box : (first : ℕ) (old new weekdays : List Bool) (index end last : ℕ) (boxes : List DayBox) (marks : List Bool) → on first weekdays index ≡ true
    → Reaches first old weekdays index end → Clears first old new weekdays index end last → Swept first marks old boxes index
    → Swept first marks new (boxes ++ box_of first index last weekdays ∷ []) (index + 1)
swept_box first old new weekdays index end last boxes marks is reach clear h = record {
  count = clear.count ∙ h.count;
  exact = λ day. omega (arith, over_more day boxes (box_of first index last weekdays), shares first old new weekdays index end last reach clear day, h.exact day);
  done = λ i low. elim (cases_eq i index) [
    | inl e ↦ clear.cleared i (omega (arith, e)) (omega (arith, e, reach.from)) (ap (λ (k : ℕ). on first weekdays k) e ∙ is)
    | inr other ↦ let lower : i < index = omega (arith, low, other) in clear.others i (inl lower) ∙ h.done i lower
  ];
  tight = All-push IsTight boxes (box_of first index last weekdays) h.tight (tight first old new weekdays index end last reach clear is);
}

none_left : (first : ℕ) (left : List Bool) (index : ℕ) → length left ≤ index → ((i : ℕ) → i < index → marked left i ≡ false) → (day : ℕ) → has_day first left day ≡ false
none_left first left index all done day = elim (cases_lt day first) [
  | inl before ↦ has_before first left day before
  | inr from ↦ subst (λ (d : ℕ). has_day first left d ≡ false) (omega (arith, from)) (has_at first left (day - first) ∙ unmarked (day - first))
]
  where
    unmarked : (i : ℕ) → marked left i ≡ false
    unmarked i = elim (cases_lt i index) [ inl h ↦ done i h | inr past ↦ get_or_past left i false (omega (arith, all, past)) ]

pub swept_all : (first : ℕ) (marks left : List Bool) (boxes : List DayBox) (index : ℕ) → length marks ≤ index → Swept first marks left boxes index → AreBoxes first marks boxes
swept_all first marks left boxes index all h = (
  λ day. omega (arith, h.exact day, ap {B = ℕ} (λ (b : Bool). cond b 1 0) (none_left first left index (omega (arith, all, h.count)) h.done day)),
  h.tight,
)
