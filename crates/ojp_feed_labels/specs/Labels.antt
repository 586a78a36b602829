-- The labels of ids.
use Rattle.std.specs.Prelude.{ℕ, ◌+◌, ◌-◌, ◌*◌, ◌/◌, ◌%◌, ◌^◌, ◌==◌, ◌&&◌, Bool, cond, not, nat_lt, List, [], ◌∷◌, ◌++◌, length, map, slice_index, take}
use Rattle.std.specs.List.{list_any}
use Rattle.sha2.specs.Sha256.{sha256}
use Rattle.ojp_values.specs.Texts.{Text, is_label, is_local_byte}

-- ---- the hashed form

-- a byte that a label may have, and `_`, which is 95, for each other
abbrev pub local_byte : ℕ → ℕ
local_byte b = cond (is_local_byte b) b 95

-- a base-32 digit is a letter, a to z, and from 26 on a figure, 2 to 7
abbrev pub digit : ℕ → ℕ
digit n = cond (nat_lt n 26) (97 + n) (50 + (n - 26))

-- the digit of a number at that place, which is 0 for the last
abbrev pub digit_at : ℕ → ℕ → ℕ
digit_at number place = digit (number / 32 ^ place % 32)

-- the last 8 base-32 digits of a number, the highest first
unfoldable pub digits : ℕ → Text
digits number = map (digit_at number) (7 ∷ 6 ∷ 5 ∷ 4 ∷ 3 ∷ 2 ∷ 1 ∷ 0 ∷ [])

-- the first 40 bits of a digest, as a number
unfoldable pub first_bits : List ℕ → ℕ
first_bits digest =
    slice_index digest 0 * 2 ^ 32 + slice_index digest 1 * 2 ^ 24 + slice_index digest 2 * 2 ^ 16 + slice_index digest 3 * 2 ^ 8
    + slice_index digest 4

-- the first bytes of the id, as a label may have them, then `-`, which is 45, and 8 digits of its SHA-256: at most so many bytes
unfoldable pub hashed : ℕ → Text → Text
hashed most id = map local_byte (take (most - 9) id) ++ 45 ∷ digits (first_bits (sha256 id))

-- ---- the label of an id

-- the id with `.`, which is 46, for each `:`, which is 58
unfoldable pub dotted : Text → Text
dotted id = map (λ (b : ℕ). cond (b == 58) 46 b) id

-- an id with no `.` that becomes a label so
abbrev pub is_dotted : Text → Bool
is_dotted id = not (list_any (λ (b : ℕ). b == 46) id) && is_label (dotted id)

-- the label of an id that is not too long: itself, or with `.` for `:`, or else the hashed form
abbrev pub label_within : ℕ → Text → Text
label_within most id = cond (is_label id) id (cond (is_dotted id) (dotted id) (hashed most id))

-- the label of an id in at most so many bytes: a longer one has the hashed form
unfoldable pub label_of : ℕ → Text → Text
label_of most id = cond (nat_lt most (length id)) (hashed most id) (label_within most id)
