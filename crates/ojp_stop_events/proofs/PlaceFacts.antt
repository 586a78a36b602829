-- One event more among the first.
use Rattle.std.proofs.Common.{◌≡◌, ℕ, suc, zero, ◌+◌, ◌≤◌, Bool, true, false, not, cond, List, [], ◌∷◌, length, take, refl, sym, ◌∙◌, ap, arith}
use Rattle.std.specs.Prelude.{insert, position, unwrap_or}
use Rattle.std.specs.List.{position_or_len}
use Rattle.ojp_timetable.proofs.ListFacts.{place_is}

module _ {X : Type 0} (p : X → Bool) where
  -- in its place, before the first that passes
  abbrev put : List X → X → List X
  put xs y = insert xs (position_or_len p xs) y

  insert_at : (x : X) (xs : List X) (k n : ℕ) (y : X) → k ≡ suc n → insert (x ∷ xs) k y ≡ x ∷ insert xs n y
  insert_at x xs k n y e = ap (λ (i : ℕ). insert (x ∷ xs) i y) e

  put_case : (x : X) (xs : List X) (y : X) (b : Bool) → p x ≡ b → put (x ∷ xs) y ≡ cond b (y ∷ x ∷ xs) (x ∷ put xs y)
  put_case x xs y true e = ap (λ (b : Bool). insert (x ∷ xs) (cond (not b) (1 + position_or_len p xs) 0) y) e
  put_case x xs y false e =
      ap (λ (b : Bool). insert (x ∷ xs) (cond (not b) (1 + position_or_len p xs) 0) y) e
      ∙ insert_at x xs (1 + position_or_len p xs) (position_or_len p xs) y (omega arith)

  take_less : (m n : ℕ) (xs : List X) → m ≤ n → take m (take n xs) ≡ take m xs
  take_less zero n xs h = refl
  take_less (suc m) zero xs h = absurd (omega (arith, h))
  take_less (suc m) (suc n) [] h = refl
  take_less (suc m) (suc n) (x ∷ xs) h = ap (λ (ys : List X). x ∷ ys) (take_less m n xs (omega (arith, h)))

  take_front : (n : ℕ) (x : X) (xs : List X) → take n (x ∷ take n xs) ≡ take n (x ∷ xs)
  take_front zero x xs = refl
  take_front (suc n) x xs = ap (λ (ys : List X). x ∷ ys) (take_less n (suc n) xs (omega arith))

  take_step : (n : ℕ) (x : X) (xs : List X) (y : X) (b : Bool) → p x ≡ b → take n (put (take n xs) y) ≡ take n (put xs y)
      → take (suc n) (put (x ∷ take n xs) y) ≡ take (suc n) (put (x ∷ xs) y)
  take_step n x xs y true e h =
      ap (take (suc n)) (put_case x (take n xs) y true e) ∙ (ap (λ (ys : List X). y ∷ ys) (take_front n x xs) ∙ sym (ap (take (suc n)) (put_case x xs y true e)))
  take_step n x xs y false e h =
      ap (take (suc n)) (put_case x (take n xs) y false e) ∙ (ap (λ (ys : List X). x ∷ ys) h ∙ sym (ap (take (suc n)) (put_case x xs y false e)))

  take_put : (n : ℕ) (xs : List X) (y : X) → take n (put (take n xs) y) ≡ take n (put xs y)
  take_put zero xs y = refl
  take_put (suc n) [] y = refl
  take_put (suc n) (x ∷ xs) y = take_step n x xs y (p x) refl (take_put n xs y)

  -- the first of a list with one more are those of its first with one more
  pub take_with : (n : ℕ) (xs : List X) (y : X)
      → take n (insert (take n xs) (unwrap_or (position p (take n xs)) (length (take n xs))) y) ≡ take n (insert xs (unwrap_or (position p xs) (length xs)) y)
  take_with n xs y =
      ap (λ (i : ℕ). take n (insert (take n xs) i y)) (place_is p (take n xs))
      ∙ (take_put n xs y ∙ sym (ap (λ (i : ℕ). take n (insert xs i y)) (place_is p xs)))
