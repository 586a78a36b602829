-- Results for the first of some targets.
use Rattle.std.proofs.Common.{List, [], ◌∷◌, ◌++◌}
use Rattle.ojp_values.specs.Lists.{Pairwise}

-- one pair more
pub pairs_with : {X Y : Type 0} (R : X → Y → Type 0) (xs : List X) (ys : List Y) (x : X) (y : Y) → Pairwise R xs ys → R x y → Pairwise R (xs ++ x ∷ []) (ys ++ y ∷ [])
pairs_with R [] [] x y pairs one = (one, tt)
pairs_with R [] (b ∷ ys) x y pairs one = absurd pairs
pairs_with R (a ∷ xs) [] x y pairs one = absurd pairs
pairs_with R (a ∷ xs) (b ∷ ys) x y pairs one = (pairs.0, pairs_with R xs ys x y pairs.1 one)
