-- A text of seven bytes.
use Rattle.std.proofs.Common.{◌≡◌, ℕ, List, [], ◌∷◌, length, get_or, refl, arith}

pub seven : (t : List ℕ) → length t ≡ 7
    → t ≡ get_or t 0 0 ∷ get_or t 1 0 ∷ get_or t 2 0 ∷ get_or t 3 0 ∷ get_or t 4 0 ∷ get_or t 5 0 ∷ get_or t 6 0 ∷ []
seven [] h = absurd (omega (arith, h))
seven (a ∷ []) h = absurd (omega (arith, h))
seven (a ∷ b ∷ []) h = absurd (omega (arith, h))
seven (a ∷ b ∷ c ∷ []) h = absurd (omega (arith, h))
seven (a ∷ b ∷ c ∷ d ∷ []) h = absurd (omega (arith, h))
seven (a ∷ b ∷ c ∷ d ∷ e ∷ []) h = absurd (omega (arith, h))
seven (a ∷ b ∷ c ∷ d ∷ e ∷ f ∷ []) h = absurd (omega (arith, h))
seven (a ∷ b ∷ c ∷ d ∷ e ∷ f ∷ g ∷ []) h = refl
seven (a ∷ b ∷ c ∷ d ∷ e ∷ f ∷ g ∷ x ∷ more) h = absurd (omega (arith, h))
