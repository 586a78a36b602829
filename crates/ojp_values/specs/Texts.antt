-- Texts of codes, stops, labels and names: which bytes are a text of each kind, and their order.
use Rattle.std.specs.Prelude.{ℕ, Bool, false, ◌&&◌, ◌||◌, ◌==◌, not, if◌then◌else◌, codes, List, [], ◌∷◌, length, nat_le, bytes_eq, slice_index, drop, Option, Some, None}
use Rattle.std.specs.List.{list_all, flat_map, before_first, position_or_len}
use Rattle.std.specs.Ordering.{is_lt, nat_cmp}
use Rattle.std.specs.Cmp.Lexicographic.{slice_cmp}
use Rattle.std.specs.Str.{is_utf8}

-- a text is the list of its bytes
abbrev pub Text : Type 0
Text = List ℕ

-- the texts are the same bytes
unfoldable pub same : Text → Text → Bool
same x y = bytes_eq x y

-- texts are ordered by their bytes
unfoldable pub text_lt : Text → Text → Bool
text_lt x y = is_lt (slice_cmp nat_cmp x y)

-- the number lies from the one to the other
abbrev pub is_between : ℕ → ℕ → ℕ → Bool
is_between low high n = nat_le low n && nat_le n high

-- A-Z or 0-9
abbrev pub is_code_byte : ℕ → Bool
is_code_byte b = is_between 65 90 b || is_between 48 57 b

-- a code is 1 to 16 capital letters and digits
abbrev pub is_code : Text → Bool
is_code text = is_between 1 16 (length text) && list_all is_code_byte text

-- A-Z, a-z, 0-9, full stop, underscore or hyphen
abbrev pub is_local_byte : ℕ → Bool
is_local_byte b =
    is_between 65 90 b || is_between 97 122 b || is_between 48 57 b || b == 46 || b == 95 || b == 45

-- a label is 1 to 32 letters, digits, full stops, underscores and hyphens
abbrev pub is_label : Text → Bool
is_label text = is_between 1 32 (length text) && list_all is_local_byte text

-- the byte is a colon
abbrev pub is_colon : ℕ → Bool
is_colon b = b == 58

-- what stands before the first colon: the code of an own stop, or `x`
abbrev pub code_part : Text → Text
code_part text = before_first is_colon text

-- the text is `x`
abbrev pub is_x : Text → Bool
is_x text = bytes_eq text (120 ∷ [])

-- a colon and a label
abbrev pub is_tail : Text → Bool
is_tail text = is_between 2 33 (length text) && slice_index text 0 == 58 && list_all is_local_byte (drop 1 text)

-- a reference to a stop is a code or `x`, then a colon, then a label
abbrev pub is_stop_ref : Text → Bool
is_stop_ref text =
    (is_x (code_part text) || is_code (code_part text)) && is_tail (drop (position_or_len is_colon text) text)

-- the stop is an exchange point, which several regions share
abbrev pub is_exchange : Text → Bool
is_exchange stop = is_x (code_part stop)

-- the region whose own stop it is; none for an exchange point
unfoldable pub home : Text → Option Text
home stop = if is_exchange stop then None else Some (code_part stop)

-- no control character of ASCII
abbrev pub is_name_byte : ℕ → Bool
is_name_byte b = nat_le 32 b

-- the bytes begin with U+FFFE or U+FFFF
abbrev pub begins_noncharacter : Text → Bool
begins_noncharacter bytes =
    slice_index bytes 0 == 239 && slice_index bytes 1 == 191 && nat_le 190 (slice_index bytes 2)

-- U+FFFE or U+FFFF stands somewhere in the bytes
abbrev pub has_noncharacter : Text → Bool
has_noncharacter [] = false
has_noncharacter (b ∷ bytes) = begins_noncharacter (b ∷ bytes) || has_noncharacter bytes

-- a name is 1 to 100 bytes of UTF-8 without control characters of ASCII, U+FFFE and U+FFFF
abbrev pub is_name : Text → Bool
is_name text =
    is_between 1 100 (length text) && list_all is_name_byte text && not (has_noncharacter text) && is_utf8 text

-- a byte of a name as a document spells it
abbrev pub escaped_byte : ℕ → Text
escaped_byte b =
    if b == 38 then codes "&amp;" else (if b == 60 then codes "&lt;" else (if b == 62 then codes "&gt;" else b ∷ []))

-- a name as a document spells it
abbrev pub escaped : Text → Text
escaped name = flat_map escaped_byte name
