-- What is read of a list in two parts.
use Rattle.std.proofs.Common.{◌≡◌, ℕ, zero, suc, ◌<◌, ◌⊎◌, List, [], ◌∷◌, ◌++◌, Some, length, ap, refl, inl, inr, arith, slice_get}
use Rattle.std.proofs.lemmas.Option.{none-some, same_Some}

module _ {X : Type 0} where
  -- what is read of a list is read where more follows
  pub slice_get-before : (xs ys : List X) (k : ℕ) (x : X) → slice_get xs k ≡ Some x → slice_get (xs ++ ys) k ≡ Some x
  slice_get-before [] ys k x e = absurd (none-some x e)
  slice_get-before (z ∷ zs) ys zero x e = e
  slice_get-before (z ∷ zs) ys (suc k) x e = slice_get-before zs ys k x e

  -- and what stands within the first part is read there
  pub slice_get-of-first : (xs ys : List X) (k : ℕ) (x : X) → k < length xs → slice_get (xs ++ ys) k ≡ Some x → slice_get xs k ≡ Some x
  slice_get-of-first [] ys k x h e = absurd (omega (arith, h))
  slice_get-of-first (z ∷ zs) ys zero x h e = e
  slice_get-of-first (z ∷ zs) ys (suc k) x h e = slice_get-of-first zs ys k x (omega (arith, h)) e

  -- the first of what follows
  pub slice_get-next : (xs : List X) (y : X) (ys : List X) → slice_get (xs ++ y ∷ ys) (length xs) ≡ Some y
  slice_get-next [] y ys = refl
  slice_get-next (x ∷ xs) y ys = slice_get-next xs y ys

  -- nothing is read past the first part where nothing follows
  pub none-after : (xs : List X) (k : ℕ) (x : X) → slice_get (xs ++ []) k ≡ Some x → k < length xs
  none-after [] k x e = absurd (none-some x e)
  none-after (z ∷ zs) zero x e = omega arith
  none-after (z ∷ zs) (suc k) x e = let h = none-after zs k x e in omega (arith, h)

  -- what is read of a list after a push was there, or is what was pushed
  pub slice_get-push-cases : (xs : List X) (y : X) (k : ℕ) (x : X) → slice_get (xs ++ y ∷ []) k ≡ Some x → (slice_get xs k ≡ Some x) ⊎ ((k ≡ length xs) × (y ≡ x))
  slice_get-push-cases [] y zero x e = inr (refl, same_Some y x e)
  slice_get-push-cases [] y (suc k) x e = absurd (none-some x e)
  slice_get-push-cases (z ∷ zs) y zero x e = inl e
  slice_get-push-cases (z ∷ zs) y (suc k) x e =
      elim (slice_get-push-cases zs y k x e) [ inl h ↦ inl h | inr h ↦ inr (ap suc h.0, h.1) ]
