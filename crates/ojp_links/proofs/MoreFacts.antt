-- One more region: lists with one more, codes, and asks of which none is live.
use Rattle.std.proofs.Common.{◌≡◌, ◌≢◌, ℕ, zero, suc, ◌<◌, List, [], ◌∷◌, ◌++◌, length, Option, Some, None, option_map, slice_get, ◌⊎◌, refl, sym, ◌∙◌, ap, inl, inr, arith}
use Rattle.std.proofs.lemmas.Option.{none-some, same_Some}
use Rattle.ojp_values.specs.Lists.{Among}
use Rattle.ojp_values.specs.Texts.{Text}
use Rattle.ojp_links.specs.Seen.{AreDistinct, Live, NoneLive, View, code_in}
use Rattle.ojp_links.specs.Calls.{SameButRests, without_rests}

pub length_more : {X : Type 0} (xs : List X) (x : X) → length (xs ++ x ∷ []) ≡ suc (length xs)
length_more [] x = refl
length_more (y ∷ xs) x = ap suc (length_more xs x)

-- what is got of a list with one more: the last, or what was there
record LastOrBefore {X : Type 0} (xs : List X) (x y : X) (k : ℕ) : Type 0 where
  cases : ((k ≡ length xs) × (y ≡ x)) ⊎ (slice_get xs k ≡ Some y)

last_or_before : {X : Type 0} (xs : List X) (x y : X) (k : ℕ) → slice_get (xs ++ x ∷ []) k ≡ Some y → LastOrBefore xs x y k
last_or_before [] x y zero e = record { cases = inl (refl, sym (same_Some x y e)) }
last_or_before [] x y (suc k) e = absurd (none-some y e)
last_or_before (z ∷ xs) x y zero e = record { cases = inr e }
last_or_before (z ∷ xs) x y (suc k) e = elim (last_or_before xs x y k e).cases [
  | inl h ↦ record { cases = inl (ap suc h.0, h.1) }
  | inr h ↦ record { cases = inr h }
]

-- distinct codes stay distinct with one that none of them is
pub distinct_more : (codes : List Text) (code : Text) → AreDistinct codes → ((k : ℕ) (other : Text) → slice_get codes k ≡ Some other → other ≢ code) → AreDistinct (codes ++ code ∷ [])
distinct_more codes code distinct apart i j x a b = elim (last_or_before codes code x i a).cases [
  | inl h ↦ elim (last_or_before codes code x j b).cases [
    | inl k ↦ h.0 ∙ sym k.0
    | inr k ↦ absurd (apart j x k h.1)
  ]
  | inr h ↦ elim (last_or_before codes code x j b).cases [
    | inl k ↦ absurd (apart i x h k.1)
    | inr k ↦ distinct i j x h k
  ]
]

-- the code at a place of the list is one of it
pub code_among : (codes : List Text) (at : ℕ) → at < length codes → Among (code_in codes at) codes
code_among [] at below = absurd (omega (arith, below))
code_among (code ∷ codes) zero below = inl refl
code_among (code ∷ codes) (suc at) below = inr (code_among codes at (omega (arith, below)))

-- no ask is live where none was
rests_none : (now : Option Live) → option_map without_rests now ≡ None → now ≡ None
rests_none None e = refl
rests_none (Some ask) e = absurd (none-some (without_rests ask) (sym e))

pub none_added : (old new : View) → SameButRests old new → NoneLive old → NoneLive new
none_added old new same none key = rests_none (new.live key) (same key ∙ ap (option_map without_rests) (none key))
