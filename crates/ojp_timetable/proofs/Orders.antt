-- Orders by one part after another.
use Rattle.std.proofs.Common.{◌≡◌, ℕ, ◌==◌, ◌&&◌, ◌||◌, nat_lt, Ordering, Bool, true, false, refl, sym, ◌∙◌, subst, true≢false, inl, inr, arith}
use Rattle.std.proofs.lemmas.Bool.{cases_Bool, or_cases, or_left, or_right}
use Rattle.std.proofs.lemmas.Bool.Decides.{nat_tests}
use Rattle.std.specs.declared.cmp.Ordering.TheVariants.{Less, Equal, Greater}
use Rattle.std.specs.Ordering.{is_lt, nat_cmp, ordering_reverse}
use Rattle.std.specs.Cmp.Lexicographic.{slice_cmp}
use Rattle.std.proofs.lemmas.Cmp.{nat_list_cmp_total}
use Rattle.ojp_values.specs.Texts.{Text, same, text_lt}
use Rattle.ojp_timetable.proofs.PointOrder.{lt_carried, lt_other}
use Rattle.ojp_timetable.proofs.TextFacts.{is_same, same_is, same_itself}

-- one part by its order and by what ties in it
pub record IsOrder {X : Type 0} (lt tie : X → X → Bool) : Type 0 where
  pub carried : (x y z : X) → lt x y ≡ true → lt y z ≡ true → lt x z ≡ true
  pub tie_before : (x y z : X) → tie x y ≡ true → lt y z ≡ true → lt x z ≡ true
  pub before_tie : (x y z : X) → lt x y ≡ true → tie y z ≡ true → lt x z ≡ true
  pub ties : (x y z : X) → tie x y ≡ true → tie y z ≡ true → tie x z ≡ true
  pub itself : (x : X) → tie x x ≡ true
  pub back : (x y : X) → tie x y ≡ true → tie y x ≡ true
  pub other : (x y : X) → lt x y ≡ false → tie x y ≡ false → lt y x ≡ true
  pub apart : (x y : X) → lt x y ≡ true → tie x y ≡ true → ⊥

pub both : (a b : Bool) → a && b ≡ true → (a ≡ true) × (b ≡ true)
both true b h = (refl, h)
both false b h = absurd (true≢false (sym h))

pub and_true : (a b : Bool) → a ≡ true → b ≡ true → a && b ≡ true
and_true true b h k = k
and_true false b h k = h

or_none : (a b : Bool) → a || b ≡ false → (a ≡ false) × (b ≡ false)
or_none true b h = absurd (true≢false h)
or_none false b h = (refl, h)

and_none : (a b : Bool) → a ≡ true → a && b ≡ false → b ≡ false
and_none true b e h = h
and_none false b e h = absurd (true≢false (sym e))

abbrev pub then_lt : {X : Type 0} → (X → X → Bool) → (X → X → Bool) → (X → X → Bool) → X → X → Bool
then_lt lt tie next x y = lt x y || (tie x y && next x y)

-- where the first part ties the second decides
module _ {X : Type 0} (lt tie next knot : X → X → Bool) (first : IsOrder lt tie) (second : IsOrder next knot) where
  after : (x y z : X) → then_lt lt tie next x y ≡ true → then_lt lt tie next y z ≡ true → then_lt lt tie next x z ≡ true
  after x y z h k = elim (or_cases (lt x y) (tie x y && next x y) h) [
    | inl a ↦ elim (or_cases (lt y z) (tie y z && next y z) k) [
      | inl b ↦ or_left (lt x z) _ (first.carried x y z a b)
      | inr b ↦ or_left (lt x z) _ (first.before_tie x y z a (both (tie y z) (next y z) b).0)
    ]
    | inr a ↦
        let t = both (tie x y) (next x y) a in
        elim (or_cases (lt y z) (tie y z && next y z) k) [
          | inl b ↦ or_left (lt x z) _ (first.tie_before x y z t.0 b)
          | inr b ↦
              let u = both (tie y z) (next y z) b in
              or_right (lt x z) _ (and_true (tie x z) (next x z) (first.ties x y z t.0 u.0) (second.carried x y z t.1 u.1))
        ]
  ]

  tied_after : (x y z : X) → tie x y && knot x y ≡ true → then_lt lt tie next y z ≡ true → then_lt lt tie next x z ≡ true
  tied_after x y z h k =
      let t = both (tie x y) (knot x y) h in
      elim (or_cases (lt y z) (tie y z && next y z) k) [
        | inl b ↦ or_left (lt x z) _ (first.tie_before x y z t.0 b)
        | inr b ↦
            let u = both (tie y z) (next y z) b in
            or_right (lt x z) _ (and_true (tie x z) (next x z) (first.ties x y z t.0 u.0) (second.tie_before x y z t.1 u.1))
      ]

  after_tied : (x y z : X) → then_lt lt tie next x y ≡ true → tie y z && knot y z ≡ true → then_lt lt tie next x z ≡ true
  after_tied x y z h k =
      let u = both (tie y z) (knot y z) k in
      elim (or_cases (lt x y) (tie x y && next x y) h) [
        | inl a ↦ or_left (lt x z) _ (first.before_tie x y z a u.0)
        | inr a ↦
            let t = both (tie x y) (next x y) a in
            or_right (lt x z) _ (and_true (tie x z) (next x z) (first.ties x y z t.0 u.0) (second.before_tie x y z t.1 u.1))
      ]

  all_tied : (x y z : X) → tie x y && knot x y ≡ true → tie y z && knot y z ≡ true → tie x z && knot x z ≡ true
  all_tied x y z h k =
      let t = both (tie x y) (knot x y) h in
      let u = both (tie y z) (knot y z) k in
      and_true (tie x z) (knot x z) (first.ties x y z t.0 u.0) (second.ties x y z t.1 u.1)

  tied_back : (x y : X) → tie x y && knot x y ≡ true → tie y x && knot y x ≡ true
  tied_back x y h =
      let t = both (tie x y) (knot x y) h in
      and_true (tie y x) (knot y x) (first.back x y t.0) (second.back x y t.1)

  other_way : (x y : X) → then_lt lt tie next x y ≡ false → tie x y && knot x y ≡ false → then_lt lt tie next y x ≡ true
  other_way x y h k =
      let n = or_none (lt x y) (tie x y && next x y) h in
      elim (cases_Bool (tie x y)) [
        | inl t ↦
            or_right (lt y x) _ (and_true (tie y x) (next y x) (first.back x y t)
            (second.other x y (and_none (tie x y) (next x y) t n.1) (and_none (tie x y) (knot x y) t k)))
        | inr t ↦ or_left (lt y x) _ (first.other x y n.0 t)
      ]

  not_tied : (x y : X) → then_lt lt tie next x y ≡ true → tie x y && knot x y ≡ true → ⊥
  not_tied x y h k =
      let t = both (tie x y) (knot x y) k in
      elim (or_cases (lt x y) (tie x y && next x y) h) [ inl a ↦ first.apart x y a t.0 | inr a ↦ second.apart x y (both (tie x y) (next x y) a).1 t.1 ]

  pub then_order : IsOrder (then_lt lt tie next) (λ x y. tie x y && knot x y)
  then_order = record { carried = after; tie_before = tied_after; before_tie = after_tied; ties = all_tied; itself = λ x. and_true (tie x x) (knot x x) (first.itself x) (second.itself x); back = tied_back; other = other_way; apart = not_tied }

-- by a number
pub number_order : {X : Type 0} (key : X → ℕ) → IsOrder (λ x y. nat_lt (key x) (key y)) (λ x y. key x == key y)
number_order key = record {
  carried = λ x y z h k. lt_lt (key x) (key y) (key z) h k;
  tie_before = λ x y z h k. eq_lt (key x) (key y) (key z) h k;
  before_tie = λ x y z h k. lt_eq (key x) (key y) (key z) h k;
  ties = λ x y z h k. eq_eq (key x) (key y) (key z) h k;
  itself = λ x. eq_itself (key x);
  back = λ x y h. eq_back (key x) (key y) h;
  other = λ x y h k. lt_back (key x) (key y) h k;
  apart = λ x y h k. lt_eq_apart (key x) (key y) h k;
}
  where
    lt_lt : (x y z : ℕ) → nat_lt x y ≡ true → nat_lt y z ≡ true → nat_lt x z ≡ true
    lt_lt x y z h k = grind (arith, nat_tests)

    eq_lt : (x y z : ℕ) → (x == y) ≡ true → nat_lt y z ≡ true → nat_lt x z ≡ true
    eq_lt x y z h k = grind (arith, nat_tests)

    lt_eq : (x y z : ℕ) → nat_lt x y ≡ true → (y == z) ≡ true → nat_lt x z ≡ true
    lt_eq x y z h k = grind (arith, nat_tests)

    eq_eq : (x y z : ℕ) → (x == y) ≡ true → (y == z) ≡ true → (x == z) ≡ true
    eq_eq x y z h k = grind (arith, nat_tests)

    eq_itself : (x : ℕ) → (x == x) ≡ true
    eq_itself x = grind (arith, nat_tests)

    eq_back : (x y : ℕ) → (x == y) ≡ true → (y == x) ≡ true
    eq_back x y h = grind (arith, nat_tests)

    lt_eq_apart : (x y : ℕ) → nat_lt x y ≡ true → (x == y) ≡ true → ⊥
    lt_eq_apart x y h k = grind (arith, nat_tests)

    lt_back : (x y : ℕ) → nat_lt x y ≡ false → (x == y) ≡ false → nat_lt y x ≡ true
    lt_back x y h k = grind (arith, nat_tests)

itself : (o : Ordering) → o ≡ ordering_reverse o → is_lt o ≡ false
itself Less e = absurd (cc)
itself Equal e = refl
itself Greater e = refl

-- no text is before itself
pub not_before_itself : (x : Text) → text_lt x x ≡ false
unfolding text_lt
not_before_itself x = itself (slice_cmp nat_cmp x x) (nat_list_cmp_total.antisymm x x)

-- by a text
pub text_order : {X : Type 0} (key : X → Text) → IsOrder (λ x y. text_lt (key x) (key y)) (λ x y. same (key x) (key y))
text_order key = record {
  carried = λ x y z h k. lt_carried (key x) (key y) (key z) h k;
  tie_before = λ x y z h k. subst (λ (t : Text). text_lt t (key z) ≡ true) (sym (same_is (key x) (key y) h)) k;
  before_tie = λ x y z h k. subst (λ (t : Text). text_lt (key x) t ≡ true) (same_is (key y) (key z) k) h;
  ties = λ x y z h k. is_same (key x) (key z) (same_is (key x) (key y) h ∙ same_is (key y) (key z) k);
  itself = λ x. same_itself (key x);
  back = λ x y h. is_same (key y) (key x) (sym (same_is (key x) (key y) h));
  other = λ x y h k. lt_other (key x) (key y) k h;
  apart = λ x y h k. true≢false (sym (subst (λ (t : Text). text_lt (key x) t ≡ true) (sym (same_is (key x) (key y) k)) h) ∙ not_before_itself (key x));
}
