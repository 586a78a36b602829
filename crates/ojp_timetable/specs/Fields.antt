-- The fields of a line.
use Rattle.std.specs.Prelude.{◌-◌, ◌==◌, cond, List, [], ◌∷◌, length, take, slice_index, Option, Some, None}
use Rattle.std.specs.List.{join_with_byte}
use Rattle.ojp_values.specs.Texts.{Text}
use Rattle.ojp_zones.specs.Parts.{parts}

-- a line without its line feed, which is 10
unfoldable pub body : Text → Text
body line = cond (slice_index line (length line - 1) == 10) (take (length line - 1) line) line

-- the fields: what stands between single spaces, which are 32
abbrev pub fields_of : Text → List Text
fields_of text = parts 32 text

-- the fields of what is left, and none where nothing is
abbrev pub fields_left : Option Text → List Text
fields_left None = []
fields_left (Some text) = fields_of text

-- the fields from one on, as the one text that they were
abbrev pub joined : List Text → Text
joined fields = join_with_byte 32 fields

-- the list has an element
abbrev pub IsSomeList : List Text → Type 0
IsSomeList [] = ⊥
IsSomeList (x ∷ xs) = Unit {0}

-- there are not three
abbrev pub IsNotThree : List Text → Type 0
IsNotThree (x ∷ y ∷ z ∷ []) = ⊥
IsNotThree _ = Unit {0}

-- there are not two
abbrev pub IsNotTwo : List Text → Type 0
IsNotTwo (x ∷ y ∷ []) = ⊥
IsNotTwo _ = Unit {0}
