-- Lists that were sorted, and rise where no two elements tie.
use Rattle.std.proofs.Common.{◌≡◌, ℕ, zero, suc, ◌+◌, ◌<◌, ◌≤◌, Bool, true, false, cond, List, [], ◌∷◌, length, get_or, refl, sym, ◌∙◌, ap, arith, inl, inr, true≢false}
use Rattle.std.specs.Cmp.{IsStrictWeakOrder}
use Rattle.std.specs.List.{count_by}
use Rattle.std.specs.List.Sorted.{IsSortedBy}
use Rattle.std.proofs.lemmas.Bool.{cases_Bool}
use Rattle.std.proofs.lemmas.List.Sorted.{sorted_far}
use Rattle.std.proofs.lemmas.List.Sums.{sum_by-cons}
use Rattle.ojp_values.proofs.ListFacts.{each_at}
use Rattle.ojp_values.proofs.EachFacts.{each_of}
use Rattle.ojp_values.specs.Lists.{Among, Each, IsRising}
use Rattle.ojp_timetable.proofs.Orders.{IsOrder}

one_if : (b : Bool) → b ≡ true → ◌≡◌ {A = ℕ} (cond b 1 0) 1
one_if true e = refl
one_if false e = absurd (true≢false (sym e))

none_if : (b : Bool) → b ≡ false → ◌≡◌ {A = ℕ} (cond b 1 0) 0
none_if true e = absurd (true≢false e)
none_if false e = refl

module _ {X : Type 0} where
  pub count_yes : (p : X → Bool) (x : X) (xs : List X) → p x ≡ true → count_by p (x ∷ xs) ≡ 1 + count_by p xs
  count_yes p x xs e = sum_by-cons (λ (y : X). cond (p y) 1 0) x xs ∙ ap (λ (n : ℕ). n + count_by p xs) (one_if (p x) e)

  pub count_no : (p : X → Bool) (x : X) (xs : List X) → p x ≡ false → count_by p (x ∷ xs) ≡ count_by p xs
  count_no p x xs e = let f = none_if (p x) e in omega (arith, sum_by-cons (λ (y : X). cond (p y) 1 0) x xs, f)

  pub count_more : (p : X → Bool) (x : X) (xs : List X) → count_by p xs ≤ count_by p (x ∷ xs)
  count_more p x xs = elim (cases_Bool (p x)) [ inl t ↦ omega (arith, count_yes p x xs t) | inr t ↦ omega (arith, count_no p x xs t) ]

  pub count_within : (p : X → Bool) (xs : List X) → count_by p xs ≤ length xs
  count_within p [] = omega arith
  count_within p (x ∷ xs) =
      elim (cases_Bool (p x)) [
        | inl t ↦ omega (arith, count_yes p x xs t, count_within p xs)
        | inr t ↦ omega (arith, count_no p x xs t, count_within p xs)
      ]

  pub count_none : (p : X → Bool) (xs : List X) → ((x : X) → Among x xs → p x ≡ false) → count_by p xs ≡ 0
  count_none p [] h = refl
  count_none p (x ∷ xs) h = count_no p x xs (h x (inl refl)) ∙ count_none p xs (λ y a. h y (inr a))

  pub none_counted : (p : X → Bool) (xs : List X) (x : X) → count_by p xs ≤ 0 → Among x xs → p x ≡ false
  none_counted p [] x h a = absurd a
  none_counted p (y ∷ ys) x h a = elim (cases_Bool (p y)) [
    | inl t ↦ absurd (omega (arith, h, count_yes p y ys t))
    | inr t ↦ elim a [ inl e ↦ ap p e ∙ t | inr b ↦ none_counted p ys x (omega (arith, h, count_more p y ys)) b ]
  ]

  pub counted_is : (p : X → Bool) (xs : List X) → 1 ≤ count_by p xs → (x : X) × Among x xs × (p x ≡ true)
  counted_is p [] h = absurd (omega (arith, h))
  counted_is p (x ∷ xs) h = elim (cases_Bool (p x)) [
    | inl t ↦ (x, inl refl, t)
    | inr t ↦ let found = counted_is p xs (omega (arith, h, count_no p x xs t)) in (found.0, inr found.1, found.2)
  ]

  each_by : (P : X → Type 0) (xs : List X) → ((k : ℕ) (d : X) → k < length xs → P (get_or xs k d)) → Each P xs
  each_by P [] h = tt
  each_by P (x ∷ xs) h = (h zero x (omega arith), each_by P xs (λ k d l. h (suc k) d (omega (arith, l))))

-- no element is before one that stands before it
abbrev pub NoneBehind : {X : Type 0} → (X → X → Bool) → List X → Type 0
NoneBehind lt [] = Unit {0}
NoneBehind lt (x ∷ xs) = Each (λ y. lt y x ≡ false) xs × NoneBehind lt xs

module _ {X : Type 0} (lt tie : X → X → Bool) (order : IsOrder lt tie) where
  pub weak : IsStrictWeakOrder lt
  weak = record { one_way = one_way; chain = chain }
    where
      one_way : (x y : X) → lt x y ≡ true → lt y x ≡ false
      one_way x y h = elim (cases_Bool (lt y x)) [ inl t ↦ absurd (order.apart x x (order.carried x y x h t) (order.itself x)) | inr t ↦ t ]

      chain : (x y z : X) → lt x y ≡ false → lt y z ≡ false → lt x z ≡ false
      chain x y z h k = elim (cases_Bool (lt x z)) [
        | inl t ↦ elim (cases_Bool (tie y z)) [
          | inl s ↦ absurd (true≢false (sym (order.before_tie x z y t (order.back y z s)) ∙ h))
          | inr s ↦ absurd (true≢false (sym (order.carried x z y t (order.other y z k s)) ∙ h))
        ]
        | inr t ↦ t
      ]

  pub one_way : (x y : X) → lt x y ≡ true → lt y x ≡ false
  one_way = weak.one_way

  far_list : (xs : List X) → ((i j : ℕ) (d : X) → i ≤ j → j < length xs → lt (get_or xs j d) (get_or xs i d) ≡ false) → NoneBehind lt xs
  far_list [] h = tt
  far_list (x ∷ xs) h = (
    each_by (λ (y : X). lt y x ≡ false) xs (λ k d l. h zero (suc k) d (omega arith) (omega (arith, l))),
    far_list xs (λ i j d a b. h (suc i) (suc j) d (omega (arith, a)) (omega (arith, b))),
  )

  pub sorted_list : (xs : List X) → IsSortedBy lt xs → NoneBehind lt xs
  sorted_list xs h = far_list xs (λ i j d a b. sorted_far lt weak xs h i j d a b)

  -- sorted, and no two tie
  pub rising_from : (xs : List X) → NoneBehind lt xs → ((z : X) → count_by (tie z) xs ≤ 1) → IsRising lt xs
  rising_from [] h few = tt
  rising_from (x ∷ xs) h few = (
    each_of (λ (y : X). lt x y ≡ true) xs (λ y a.
        let none : count_by (tie x) xs ≤ 0 = omega (arith, few x, count_yes (tie x) x xs (order.itself x)) in
        let apart = none_counted (tie x) xs y none a in
        let back : tie y x ≡ false = elim (cases_Bool (tie y x)) [ inl t ↦ absurd (true≢false (sym (order.back y x t) ∙ apart)) | inr t ↦ t ] in
        order.other y x (each_at (λ (w : X). lt w x ≡ false) y xs h.0 a) back),
    rising_from xs h.1 (λ z. omega (arith, few z, count_more (tie z) x xs)),
  )

  pub rising_counts : (xs : List X) → IsRising lt xs → (z : X) → count_by (tie z) xs ≤ 1
  rising_counts [] h z = omega arith
  rising_counts (x ∷ xs) h z = elim (cases_Bool (tie z x)) [
    | inl t ↦
        let none = count_none (tie z) xs (λ y a. elim (cases_Bool (tie z y)) [
          | inl s ↦ absurd (order.apart x y (each_at (λ (w : X). lt x w ≡ true) y xs h.0 a) (order.ties x z y (order.back z x t) s))
          | inr s ↦ s
        ]) in
        omega (arith, count_yes (tie z) x xs t, none)
    | inr t ↦ omega (arith, count_no (tie z) x xs t, rising_counts xs h.1 z)
  ]
