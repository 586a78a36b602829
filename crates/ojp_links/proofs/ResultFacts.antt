-- Two lists, place by place.
use Rattle.std.proofs.Common.{◌≡◌, suc, List, [], ◌∷◌, length, refl, sym, ap, subst}
use Rattle.ojp_values.specs.Lists.{Pairwise}

module _ {X Y : Type 0} where
  pub pairs_are_as_many : (R : X → Y → Type 0) (xs : List X) (ys : List Y) → Pairwise R xs ys → length xs ≡ length ys
  pairs_are_as_many R [] [] h = refl
  pairs_are_as_many R [] (y ∷ ys) h = absurd h
  pairs_are_as_many R (x ∷ xs) [] h = absurd h
  pairs_are_as_many R (x ∷ xs) (y ∷ ys) h = ap suc (pairs_are_as_many R xs ys h.1)

  -- all pairs stand in the relation just where those left do
  pub record PairsFrom (R : X → Y → Type 0) (xs : List X) (ys : List Y) (left : List X) (others : List Y) : Type 0 where
    pub on : Pairwise R left others → Pairwise R xs ys
    pub back : Pairwise R xs ys → Pairwise R left others

  pub pairs_first : (R : X → Y → Type 0) (xs : List X) (ys : List Y) → PairsFrom R xs ys xs ys
  pairs_first R xs ys = record { on = λ h. h; back = λ h. h }

  pub pairs_next : (R : X → Y → Type 0) (xs : List X) (ys : List Y) (x : X) (y : Y) (left more : List X) (others rest : List Y) → left ≡ x ∷ more → others ≡ y ∷ rest → R x y
      → PairsFrom R xs ys left others → PairsFrom R xs ys more rest
  pairs_next R xs ys x y left more others rest e f r so = record {
    on = λ h. so.on (subst (λ (us : List X). Pairwise R us others) (sym e) (subst (λ (vs : List Y). Pairwise R (x ∷ more) vs) (sym f) (r, h)));
    back = λ all. (subst (λ (vs : List Y). Pairwise R (x ∷ more) vs) f (subst (λ (us : List X). Pairwise R us others) e (so.back all))).1;
  }

  pub pairs_fail : (R : X → Y → Type 0) (xs : List X) (ys : List Y) (x : X) (y : Y) (left more : List X) (others rest : List Y) → left ≡ x ∷ more → others ≡ y ∷ rest → (R x y → ⊥)
      → PairsFrom R xs ys left others → Pairwise R xs ys → ⊥
  pairs_fail R xs ys x y left more others rest e f not so all =
      not (subst (λ (vs : List Y). Pairwise R (x ∷ more) vs) f (subst (λ (us : List X). Pairwise R us others) e (so.back all))).0

  pub pairs_whole : (R : X → Y → Type 0) (xs : List X) (ys : List Y) (left : List X) (others : List Y) → left ≡ [] → others ≡ [] → PairsFrom R xs ys left others → Pairwise R xs ys
  pairs_whole R xs ys left others e f so = so.on (subst (λ (us : List X). Pairwise R us others) (sym e) (subst (λ (vs : List Y). Pairwise R [] vs) (sym f) tt))
