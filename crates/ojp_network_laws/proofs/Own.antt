-- No two places and no two journeys of a region have one key.
use Rattle.std.proofs.Common.{◌≡◌, ◌≢◌, inl, inr, ℕ, zero, suc, ◌+◌, ◌<◌, ◌≤◌, List, [], ◌∷◌, ◌++◌, sym, ap, arith, map, length}
use Rattle.std.proofs.lemmas.List.FromFn.{length-map-range_with_len}
use Rattle.std.specs.List.{range_with_len}
use Rattle.std.proofs.Math.Nat.{eq-or-lt_of_le}
use Rattle.ojp_values.specs.Lists.{Among, Each}
use Rattle.ojp_values.specs.Texts.{Text}
use Rattle.ojp_texts.specs.Spelled.{HaveOwn}
use Rattle.ojp_network.specs.Draws.{below}

-- what holds for each number holds for what is made of them
pub each_range : {X : Type 0} (P : X → Type 0) (f : ℕ → X) (a n : ℕ) → ((k : ℕ) → a ≤ k → k < a + n → P (f k)) → Each P (map f (range_with_len a n))
each_range P f a zero h = tt
each_range P f a (suc n) h = (h a (omega arith) (omega arith), each_range P f (a + 1) n (λ k low high. h k (omega (arith, low)) (omega (arith, high))))

pub each_below : {X : Type 0} (P : X → Type 0) (f : ℕ → X) (n : ℕ) → ((k : ℕ) → k < n → P (f k)) → Each P (below f n)
unfolding below
each_below P f n h = each_range P f 0 n (λ k low high. h k (omega (arith, high)))

pub own_range : {X : Type 0} (key : X → Text) (f : ℕ → X) (a n : ℕ) → ((i j : ℕ) → i < a + n → j < a + n → key (f i) ≡ key (f j) → i ≡ j) → HaveOwn key (map f (range_with_len a n))
own_range key f a zero h = tt
own_range key f a (suc n) h = (
  each_range (λ other. key (f a) ≢ key other) f (a + 1) n (λ k low high e. let same = h a k (omega arith) (omega (arith, high)) e in absurd (omega (arith, low, same))),
  own_range key f (a + 1) n (λ i j b d e. h i j (omega (arith, b)) (omega (arith, d)) e),
)

pub own_below : {X : Type 0} (key : X → Text) (f : ℕ → X) (n : ℕ) → ((i j : ℕ) → i < n → j < n → key (f i) ≡ key (f j) → i ≡ j) → HaveOwn key (below f n)
unfolding below
own_below key f n h = own_range key f 0 n (λ i j b d e. h i j (omega (arith, b)) (omega (arith, d)) e)

pub each_append : {X : Type 0} (P : X → Type 0) (xs ys : List X) → Each P xs → Each P ys → Each P (xs ++ ys)
each_append P [] ys h k = k
each_append P (x ∷ xs) ys h k = (h.0, each_append P xs ys h.1 k)

-- keys of the one list are not keys of the other
pub own_append : {X : Type 0} (key : X → Text) (xs ys : List X) → HaveOwn key xs → HaveOwn key ys → Each (λ x. Each (λ y. key x ≢ key y) ys) xs → HaveOwn key (xs ++ ys)
own_append key [] ys h k apart = k
own_append key (x ∷ xs) ys h k apart = (each_append (λ y. key x ≢ key y) xs ys h.0 apart.0, own_append key xs ys h.1 k apart.1)

-- ---- the front of a list

pub each_front : {X : Type 0} (P : X → Type 0) (xs ys : List X) → Each P (xs ++ ys) → Each P xs
each_front P [] ys h = tt
each_front P (x ∷ xs) ys h = (h.0, each_front P xs ys h.1)

pub own_front : {X : Type 0} (key : X → Text) (xs ys : List X) → HaveOwn key (xs ++ ys) → HaveOwn key xs
own_front key [] ys h = tt
own_front key (x ∷ xs) ys h = (each_front (λ y. key x ≢ key y) xs ys h.0, own_front key xs ys h.1)

pub length-below : {X : Type 0} (f : ℕ → X) (n : ℕ) → length (below f n) ≡ n
unfolding below
length-below f n = length-map-range_with_len f 0 n

among_range : {X : Type 0} (f : ℕ → X) (a n k : ℕ) → a ≤ k → k < a + n → Among (f k) (map f (range_with_len a n))
among_range f a zero k low high = absurd (omega (arith, low, high))
among_range f a (suc n) k low high = elim (eq-or-lt_of_le low) [ inl e ↦ inl (ap f (sym e)) | inr l ↦ inr (among_range f (a + 1) n k (omega (arith, l)) (omega (arith, high))) ]

pub among_below : {X : Type 0} (f : ℕ → X) (n k : ℕ) → k < n → Among (f k) (below f n)
unfolding below
among_below f n k small = among_range f 0 n k (omega arith) (omega (arith, small))
