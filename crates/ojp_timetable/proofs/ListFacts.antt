-- Facts of each element, where one more comes in between, and of lists that rise.
use Rattle.std.proofs.Common.{◌≡◌, ℕ, zero, suc, ◌+◌, ◌≤◌, Bool, true, false, not, cond, nat_lt, List, [], ◌∷◌, length, refl, sym, ap, subst, arith}
use Rattle.std.specs.Prelude.{Some, None, insert, position, unwrap_or}
use Rattle.std.specs.List.{list_any, position_or_len}
use Rattle.std.proofs.lemmas.Bool.Decides.{nat_tests}
use Rattle.std.proofs.lemmas.List.Sums.{prefix_len-le-length}
use Rattle.ojp_values.specs.Lists.{Each, IsRising}
use Rattle.ojp_timetable.proofs.AmongFacts.{or_false}

-- where a test stops, or the end
stops_at : (n m : ℕ) → n ≤ m → unwrap_or (cond (nat_lt n m) (Some n) None) m ≡ n
stops_at n m h = grind (arith, nat_tests)

module _ {X : Type 0} where
  pub each_map : (P Q : X → Type 0) → ((x : X) → P x → Q x) → (xs : List X) → Each P xs → Each Q xs
  each_map P Q f [] h = tt
  each_map P Q f (x ∷ xs) h = (f x h.0, each_map P Q f xs h.1)

  pub each_insert : (P : X → Type 0) (xs : List X) (i : ℕ) (y : X) → P y → Each P xs → Each P (insert xs i y)
  each_insert P [] zero y p h = (p, tt)
  each_insert P [] (suc i) y p h = (p, tt)
  each_insert P (x ∷ xs) zero y p h = (p, h)
  each_insert P (x ∷ xs) (suc i) y p h = (h.0, each_insert P xs i y p h.1)

  -- each fails where none passes
  pub each_fails : (p : X → Bool) (xs : List X) → list_any p xs ≡ false → Each (λ x. p x ≡ false) xs
  each_fails p [] h = tt
  each_fails p (x ∷ xs) h = let o = or_false (p x) (list_any p xs) h in (o.0, each_fails p xs o.1)

  pub place_is : (p : X → Bool) (xs : List X) → unwrap_or (position p xs) (length xs) ≡ position_or_len p xs
  place_is p xs = stops_at _ _ (prefix_len-le-length (λ x. not (p x)) xs)

  -- the order goes on
  abbrev pub IsCarried : (X → X → Bool) → Type 0
  IsCarried before = (x y z : X) → before x y ≡ true → before y z ≡ true → before x z ≡ true

  insert_later : (y x : X) (ys : List X) (k n : ℕ) → k ≡ suc n → insert (y ∷ ys) k x ≡ y ∷ insert ys n x
  insert_later y x ys k n e = ap (λ (i : ℕ). insert (y ∷ ys) i x) e

  insert_step : (before : X → X → Bool) → IsCarried before → (x y : X) (ys : List X) (n : ℕ) (b : Bool) → before x y ≡ b → (b ≡ false → before y x ≡ true)
      → Each (λ z. before y z ≡ true) ys → IsRising before ys → IsRising before (insert ys n x) → IsRising before (insert (y ∷ ys) (cond (not b) (1 + n) 0) x)
  insert_step before carried x y ys n true e other each rises next =
      ((e, each_map (λ z. before y z ≡ true) (λ z. before x z ≡ true) (λ z h. carried x y z e h) ys each), (each, rises))
  insert_step before carried x y ys n false e other each rises next =
      subst (IsRising before) (sym (insert_later y x ys (1 + n) n (omega arith)))
      (each_insert (λ z. before y z ≡ true) ys n x (other refl) each, next)

  -- the list still rises with one more before the first that it is before
  insert_rises : (before : X → X → Bool) → IsCarried before → (x : X) (xs : List X) → Each (λ y. before x y ≡ false → before y x ≡ true) xs → IsRising before xs
      → IsRising before (insert xs (position_or_len (before x) xs) x)
  insert_rises before carried x [] others rises = (tt, tt)
  insert_rises before carried x (y ∷ ys) others rises =
      insert_step before carried x y ys (position_or_len (before x) ys) (before x y) refl others.0 rises.0 rises.1 (insert_rises before carried x ys others.1 rises.1)

  pub rises_with : (before : X → X → Bool) → IsCarried before → (x : X) (xs : List X) → Each (λ y. before x y ≡ false → before y x ≡ true) xs → IsRising before xs
      → IsRising before (insert xs (unwrap_or (position (before x) xs) (length xs)) x)
  rises_with before carried x xs others rises =
      subst (λ (i : ℕ). IsRising before (insert xs i x)) (sym (place_is (before x) xs)) (insert_rises before carried x xs others rises)
