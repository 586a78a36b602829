-- A text by its few parts.
use Rattle.std.specs.Prelude.{◌≡◌, ℕ, List, [], ◌∷◌}
use Rattle.ojp_zones.specs.Parts.{Text, parts}
use Rattle.ojp_zones.specs.declared.parts.Split.{Split}
use Rattle.ojp_zones.specs.declared.parts.Split.TheVariants.{One, Two, Three, More}

-- the parts of the text are these; there are more than three where the split names none
abbrev pub IsSplit : ℕ → Text → Split → Type 0
IsSplit separator text (One a) = parts separator text ≡ a.now ∷ []
IsSplit separator text (Two a b) = parts separator text ≡ a.now ∷ b.now ∷ []
IsSplit separator text (Three a b c) = parts separator text ≡ a.now ∷ b.now ∷ c.now ∷ []
IsSplit separator text More =
    (a : Text) × (b : Text) × (c : Text) × (d : Text) × (more : List Text) × (parts separator text ≡ a ∷ b ∷ c ∷ d ∷ more)
