-- The parts of a text, between separators.
use Rattle.std.specs.Prelude.{ℕ, ◌==◌, List, [], Option, Some, None}
use Rattle.std.specs.List.{slice_split}

abbrev pub Text : Type 0
Text = List ℕ

-- what stands between the separators, which is all where there is none
unfoldable pub parts : ℕ → Text → List Text
parts separator text = slice_split (λ b. b == separator) text

-- the parts of what is left, and none where nothing is
abbrev pub parts_left : ℕ → Option Text → List Text
parts_left separator None = []
parts_left separator (Some text) = parts separator text
