-- How the parts of a text begin.
use Rattle.std.proofs.Common.{◌≡◌, ℕ, ◌+◌, ◌==◌, Bool, [], ◌∷◌, length, take, drop, ◌∙◌, ap, arith}
use Rattle.std.specs.Prelude.{Some, None}
use Rattle.std.specs.List.{position, position_or_len, slice_split}
use Rattle.std.proofs.lemmas.List.Splits.{slice_split_first, slice_split_none, length-slice_split}
use Rattle.std.proofs.lemmas.List.Quantifiers.{position-Some}
use Rattle.std.proofs.lemmas.List.Sums.{position_or_len_is}
use Rattle.ojp_values.proofs.Positions.{none_passes}
use Rattle.ojp_zones.specs.Parts.{Text, parts}

abbrev pub is_at : ℕ → ℕ → Bool
is_at separator b = b == separator

pub parts_at : (separator : ℕ) (text : Text) (i : ℕ) → position (λ b. b == separator) text ≡ Some i → parts separator text ≡ take i text ∷ parts separator (drop (i + 1) text)
unfolding parts
parts_at separator text i h =
    let s = position-Some (is_at separator) text i 0 h in
    let e : position_or_len (is_at separator) text ≡ i = position_or_len_is (is_at separator) text i 0 (omega arith) s.2 (λ _. s.1) in
    slice_split_first (is_at separator) text 0 (omega arith) ∙ ap (λ (n : ℕ). take n text ∷ slice_split (is_at separator) (drop (n + 1) text)) e

pub parts_end : (separator : ℕ) (text : Text) → position (λ b. b == separator) text ≡ None → parts separator text ≡ text ∷ []
unfolding parts
parts_end separator text h = slice_split_none (is_at separator) text (none_passes (is_at separator) text h)

-- a text has a part
pub parts-nonempty : (separator : ℕ) (text : Text) → parts separator text ≡ [] → ⊥
unfolding parts
parts-nonempty separator text h = omega (arith, length-slice_split (is_at separator) text, ap length h)
