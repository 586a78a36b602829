-- Elements of lists that grow.
use Rattle.std.proofs.Common.{◌≡◌, ℕ, zero, suc, ◌+◌, ◌<◌, ◌⊎◌, inl, inr, Bool, true, false, not, ◌||◌, cond, List, [], ◌∷◌, ◌++◌, length, refl, sym, ◌∙◌, ap, arith, true≢false, nat_lt}
use Rattle.std.specs.Prelude.{Some, None, insert, position, unwrap_or}
use Rattle.std.specs.List.{list_any, position_or_len}
use Rattle.std.proofs.lemmas.Bool.Decides.{nat_tests}
use Rattle.ojp_values.specs.Lists.{Among, Each}

pub or_false : (a b : Bool) → a || b ≡ false → (a ≡ false) × (b ≡ false)
or_false true b h = absurd (true≢false h)
or_false false b h = (refl, h)

stops_in : (b : Bool) (n m : ℕ) (q : Bool) → b || q ≡ true → (q ≡ true → n < m) → cond (not b) (1 + n) 0 < suc m
stops_in true n m q h more = omega arith
stops_in false n m q h more = let l = more h in omega arith

chosen : (n m : ℕ) → n < m → unwrap_or (cond (nat_lt n m) (Some n) None) 0 < m
chosen n m h = grind (arith, nat_tests)

module _ {X : Type 0} where
  pub among_left : (x : X) (xs ys : List X) → Among x xs → Among x (xs ++ ys)
  among_left x [] ys h = absurd h
  among_left x (y ∷ xs) ys h = elim h [ inl e ↦ inl e | inr t ↦ inr (among_left x xs ys t) ]

  pub among_last : (xs : List X) (y : X) → Among y (xs ++ y ∷ [])
  among_last [] y = inl refl
  among_last (x ∷ xs) y = inr (among_last xs y)

  -- an element of a list with one more is one of the list or the new one
  pub among_push : (x : X) (xs : List X) (y : X) → Among x (xs ++ y ∷ []) → Among x xs ⊎ (x ≡ y)
  among_push x [] y h = elim h [ inl e ↦ inr e | inr t ↦ absurd t ]
  among_push x (z ∷ xs) y h = elim h [
    | inl e ↦ inl (inl e)
    | inr t ↦ elim (among_push x xs y t) [ inl u ↦ inl (inr u) | inr e ↦ inr e ]
  ]

  pub among_insert : (x : X) (xs : List X) (i : ℕ) (y : X) → Among x xs → Among x (insert xs i y)
  among_insert x [] i y h = absurd h
  among_insert x (z ∷ xs) zero y h = inr h
  among_insert x (z ∷ xs) (suc i) y h = elim h [ inl e ↦ inl e | inr t ↦ inr (among_insert x xs i y t) ]

  pub among_inserted : (xs : List X) (i : ℕ) (y : X) → Among y (insert xs i y)
  among_inserted [] zero y = inl refl
  among_inserted [] (suc i) y = inl refl
  among_inserted (z ∷ xs) zero y = inl refl
  among_inserted (z ∷ xs) (suc i) y = inr (among_inserted xs i y)

  -- an element of a list with one more in between is one of the list or the new one
  pub among_insert_or : (x : X) (xs : List X) (i : ℕ) (y : X) → Among x (insert xs i y) → Among x xs ⊎ (x ≡ y)
  among_insert_or x [] zero y h = elim h [ inl e ↦ inr e | inr t ↦ absurd t ]
  among_insert_or x [] (suc i) y h = elim h [ inl e ↦ inr e | inr t ↦ absurd t ]
  among_insert_or x (z ∷ xs) zero y h = elim h [ inl e ↦ inr e | inr t ↦ inl t ]
  among_insert_or x (z ∷ xs) (suc i) y h = elim h [
    | inl e ↦ inl (inl e)
    | inr t ↦ elim (among_insert_or x xs i y t) [ inl u ↦ inl (inr u) | inr e ↦ inr e ]
  ]

  pub each_push : (P : X → Type 0) (xs : List X) (y : X) → Each P xs → P y → Each P (xs ++ y ∷ [])
  each_push P [] y h p = (p, tt)
  each_push P (x ∷ xs) y h p = (h.0, each_push P xs y h.1 p)

  -- no element passes where none does
  pub any_false : (p : X → Bool) (x : X) (xs : List X) → list_any p xs ≡ false → Among x xs → p x ≡ false
  any_false p x [] h a = absurd a
  any_false p x (y ∷ xs) h a =
      let o = or_false (p y) (list_any p xs) h in
      elim a [ inl e ↦ ap p e ∙ o.0 | inr t ↦ any_false p x xs o.1 t ]

  first_or : (p : X → Bool) (y : X) (xs : List X) (b : Bool) → p y ≡ b → b || list_any p xs ≡ true → (list_any p xs ≡ true → (x : X) × Among x xs × (p x ≡ true)) → (x : X) × Among x (y ∷ xs) × (p x ≡ true)
  first_or p y xs true e h more = (y, inl refl, e)
  first_or p y xs false e h more = let found = more h in (found.0, inr found.1, found.2)

  -- some element passes where one does
  pub any_true : (p : X → Bool) (xs : List X) → list_any p xs ≡ true → (x : X) × Among x xs × (p x ≡ true)
  any_true p [] h = absurd (true≢false (sym h))
  any_true p (y ∷ xs) h = first_or p y xs (p y) refl h (any_true p xs)

  -- and its place is within the list
  stops_within : (p : X → Bool) (xs : List X) → list_any p xs ≡ true → position_or_len p xs < length xs
  stops_within p [] h = absurd (true≢false (sym h))
  stops_within p (y ∷ xs) h = stops_in (p y) (position_or_len p xs) (length xs) (list_any p xs) h (stops_within p xs)

  pub place_within : (p : X → Bool) (xs : List X) → list_any p xs ≡ true → unwrap_or (position p xs) 0 < length xs
  place_within p xs h = chosen _ _ (stops_within p xs h)
