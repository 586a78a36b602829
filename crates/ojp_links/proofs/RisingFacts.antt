-- Lists that rise, item by item, and facts of each item.
use Rattle.std.proofs.Common.{◌≡◌, ℕ, zero, suc, ◌+◌, ◌<◌, ◌≤◌, Bool, true, false, true≢false, List, [], ◌∷◌, length, get_or, drop, refl, sym, ◌∙◌, ap, subst, arith, drop-cons}
use Rattle.std.specs.Prelude.{IsTrue, All}
use Rattle.std.proofs.lemmas.List.Elements.{All-nil, All-cons, All-head, All-tail}
use Rattle.ojp_values.specs.Lists.{Each, IsRising}

one_more : (i : ℕ) → suc i ≡ i + 1
one_more i = omega arith

module _ {X : Type 0} where
  pub all_of_each : (P : X → Type 0) (xs : List X) → Each P xs → All P xs
  all_of_each P [] h = All-nil P
  all_of_each P (x ∷ xs) h = All-cons P x xs h.0 (all_of_each P xs h.1)

  pub each_of_all : (P : X → Type 0) (xs : List X) → All P xs → Each P xs
  each_of_all P [] h = tt
  each_of_all P (x ∷ xs) h = (All-head P x xs h, each_of_all P xs (All-tail P x xs h))

  pub each_map : (P Q : X → Type 0) → ((x : X) → P x → Q x) → (xs : List X) → Each P xs → Each Q xs
  each_map P Q f [] h = tt
  each_map P Q f (x ∷ xs) h = (f x h.0, each_map P Q f xs h.1)

  -- what is left behind an item that was read
  pub rest_at : (xs : List X) (i : ℕ) (x : X) → i < length xs → x ≡ get_or xs i x → drop i xs ≡ x ∷ drop (i + 1) xs
  rest_at xs i x l e = drop-cons xs i x l ∙ (ap (λ (y : X). y ∷ drop (suc i) xs) (sym e) ∙ ap (λ (k : ℕ). x ∷ drop k xs) (one_more i))

  pub none_left : (xs : List X) (i : ℕ) → length xs ≤ i → drop i xs ≡ []
  none_left [] zero h = refl
  none_left [] (suc i) h = refl
  none_left (x ∷ xs) zero h = absurd (omega arith)
  none_left (x ∷ xs) (suc i) h = none_left xs i (omega arith)

  -- what is before another is before all that the other is before
  abbrev pub IsCarried : (X → X → Bool) → Type 0
  IsCarried before = (x y z : X) → before x y ≡ true → before y z ≡ true → before x z ≡ true

  -- all the items rise just where those from the last one on do
  pub record RisesFrom (before : X → X → Bool) (first : X) (rest : List X) (last : X) (left : List X) : Type 0 where
    pub on : IsRising before (last ∷ left) → IsRising before (first ∷ rest)
    pub back : IsRising before (first ∷ rest) → IsRising before (last ∷ left)

  pub rises_first : (before : X → X → Bool) (first : X) (rest : List X) → RisesFrom before first rest first rest
  rises_first before first rest = record { on = λ h. h; back = λ h. h }

  pub rises_next : (before : X → X → Bool) → IsCarried before → (first : X) (rest : List X) (last item : X) (left more : List X) → left ≡ item ∷ more → before last item ≡ true
      → RisesFrom before first rest last left → RisesFrom before first rest item more
  rises_next before carried first rest last item left more e h so = record {
    on = λ rises. so.on (subst (λ (xs : List X). IsRising before (last ∷ xs)) (sym e)
        ((h, each_map (λ y. before item y ≡ true) (λ y. before last y ≡ true) (λ y k. carried last item y h k) more rises.0), rises));
    back = λ all. (subst (λ (xs : List X). IsRising before (last ∷ xs)) e (so.back all)).1;
  }

  pub falls_here : (before : X → X → Bool) (first : X) (rest : List X) (last item : X) (left more : List X) → left ≡ item ∷ more → before last item ≡ false
      → RisesFrom before first rest last left → IsRising before (first ∷ rest) → ⊥
  falls_here before first rest last item left more e h so all =
      let here = subst (λ (xs : List X). IsRising before (last ∷ xs)) e (so.back all) in
      true≢false (sym here.0.0 ∙ h)

  pub rises_whole : (before : X → X → Bool) (first : X) (rest : List X) (last : X) (left : List X) → left ≡ [] → RisesFrom before first rest last left → IsRising before (first ∷ rest)
  rises_whole before first rest last left e so = so.on (subst (λ (xs : List X). IsRising before (last ∷ xs)) (sym e) (tt, tt))

-- a test and what it tells
pub told_no : (P : Type 0) → (P → ⊥) → (IsTrue false → P) × (P → IsTrue false)
told_no P h = ((λ e. absurd (true≢false (sym e))), (λ p. absurd (h p)))

pub told_yes : (P : Type 0) → P → (IsTrue true → P) × (P → IsTrue true)
told_yes P p = ((λ e. p), (λ q. refl))

pub taken : (b : Bool) (P : Type 0) → (IsTrue b → P) × (P → IsTrue b) → b ≡ true → P
taken b P h e = h.0 e

pub refused : (b : Bool) (P : Type 0) → (IsTrue b → P) × (P → IsTrue b) → b ≡ false → P → ⊥
refused b P h e p = true≢false (sym (h.1 p) ∙ e)

-- a test of the one is a test of the other
pub as_test : (b : Bool) (P Q : Type 0) → (IsTrue b → P) × (P → IsTrue b) → (P → Q) × (Q → P) → (IsTrue b → Q) × (Q → IsTrue b)
as_test b P Q h k = ((λ e. k.0 (h.0 e)), (λ q. h.1 (k.1 q)))
