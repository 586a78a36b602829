-- What holds of each element of a list, and elements that are read by their number.
use Rattle.std.proofs.Common.{◌≡◌, ℕ, zero, suc, ◌+◌, ◌<◌, ◌≤◌, List, [], ◌∷◌, Some, length, take, slice_get, refl, sym, ◌∙◌, ap, subst, inl, inr, arith}
use Rattle.std.proofs.lemmas.Option.{none-some, same_Some}
use Rattle.ojp_values.specs.Lists.{Among, Each}

-- a number below the next one is at most the one
pub up_to : (k n : ℕ) → k < n + 1 → k ≤ n
up_to k n h = omega (arith, h)

module _ {X : Type 0} where
  -- an element that is read stands in the list
  pub among_at : (xs : List X) (k : ℕ) (x : X) → slice_get xs k ≡ Some x → Among x xs
  among_at [] k x e = absurd (none-some x e)
  among_at (y ∷ ys) zero x e = inl (sym (same_Some y x e))
  among_at (y ∷ ys) (suc k) x e = inr (among_at ys k x e)

  -- an element of the list is read somewhere
  pub at_among : (xs : List X) (x : X) → Among x xs → (k : ℕ) × (slice_get xs k ≡ Some x)
  at_among [] x h = absurd h
  at_among (y ∷ ys) x (inl e) = (zero, ap Some (sym e))
  at_among (y ∷ ys) x (inr h) = let r = at_among ys x h in (suc r.0, r.1)

  -- two reads of one place give one element
  pub read_once : (xs : List X) (j k : ℕ) (x y : X) → j ≡ k → slice_get xs j ≡ Some x → slice_get xs k ≡ Some y → x ≡ y
  read_once xs j k x y e a b = same_Some x y (sym a ∙ (ap (λ (n : ℕ). slice_get xs n) e ∙ b))

  -- a place within the list is read
  pub read_at : (xs : List X) (k : ℕ) → k < length xs → (x : X) × (slice_get xs k ≡ Some x)
  read_at [] k h = absurd (omega (arith, h))
  read_at (y ∷ ys) zero h = (y, refl)
  read_at (y ∷ ys) (suc k) h = read_at ys k (omega (arith, h))

  -- what holds of each holds of the one that is read
  pub each_read : (P : X → Type 0) (xs : List X) (k : ℕ) (x : X) → Each P xs → slice_get xs k ≡ Some x → P x
  each_read P [] k x h e = absurd (none-some x e)
  each_read P (y ∷ ys) zero x h e = subst P (same_Some y x e) h.0
  each_read P (y ∷ ys) (suc k) x h e = each_read P ys k x h.1 e

  -- what holds of all that stand in the list holds of each
  pub each_of : (P : X → Type 0) (xs : List X) → ((x : X) → Among x xs → P x) → Each P xs
  each_of P [] h = tt
  each_of P (x ∷ xs) h = (h x (inl refl), each_of P xs (λ y a. h y (inr a)))

  -- and of each of the first ones
  pub each_take : (P : X → Type 0) (n : ℕ) (xs : List X) → Each P xs → Each P (take n xs)
  each_take P zero xs h = tt
  each_take P (suc n) [] h = tt
  each_take P (suc n) (x ∷ xs) h = (h.0, each_take P n xs h.1)
