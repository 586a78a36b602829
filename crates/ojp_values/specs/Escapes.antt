-- Names as documents spell them, read from the front.
use Rattle.std.specs.Prelude.{ℕ, Bool, ◌==◌, ◌||◌, if◌then◌else◌, codes, List, [], ◌∷◌, drop, Option, Some, None, nat_eq}
use Rattle.std.specs.List.{starts_with}

-- the byte that a spelling begins with behind its `&`, and what stands behind it
abbrev pub first_escape : List ℕ → Option (ℕ × List ℕ)
first_escape rest =
    if starts_with nat_eq rest (codes "amp;") then Some (38, drop 4 rest)
    else (if starts_with nat_eq rest (codes "lt;") then Some (60, drop 3 rest)
    else (if starts_with nat_eq rest (codes "gt;") then Some (62, drop 3 rest) else None))

-- the byte whose spelling the text begins with, and what stands behind it
abbrev pub first_byte : List ℕ → Option (ℕ × List ℕ)
first_byte [] = None
first_byte (b ∷ rest) = if b == 38 then first_escape rest else (if b == 60 || b == 62 then None else Some (b, rest))

-- the byte is `&`, `<` or `>`, which are not spelled as themselves
abbrev pub is_escaped_byte : ℕ → Bool
is_escaped_byte b = b == 38 || b == 60 || b == 62
