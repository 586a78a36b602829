-- A label is a name.
use Rattle.std.proofs.Common.{◌≡◌, ℕ, ◌<◌, ◌≤◌, not, true, false, List, [], ◌∷◌, length, refl, ap, arith}
use Rattle.std.proofs.lemmas.Bool.{and_from, and_left, and_parts, or_from, le-leb, ne_eqb}
use Rattle.std.proofs.lemmas.Bool.Decides.{nat_tests}
use Rattle.std.proofs.lemmas.Str.{IsUtf8-from_ascii, is_utf8-from_IsUtf8}
use Rattle.std.proofs.lemmas.Str.Ascii.{IsAscii-cons, IsAscii-nil}
use Rattle.std.specs.List.{list_all}
use Rattle.std.specs.Str.{IsAscii}
use Rattle.ojp_values.specs.Texts.{begins_noncharacter, has_noncharacter, is_between, is_label, is_local_byte, is_name, is_name_byte}

local_high : (b : ℕ) → is_local_byte b ≡ true → 45 ≤ b
local_high b h = grind (arith, nat_tests)

local_low : (b : ℕ) → is_local_byte b ≡ true → b < 128
local_low b h = grind (arith, nat_tests)

local_names : (text : List ℕ) → list_all is_local_byte text ≡ true → list_all is_name_byte text ≡ true
local_names [] h = refl
local_names (b ∷ text) h =
    let parts = and_parts (is_local_byte b) (list_all is_local_byte text) h in
    and_from (is_name_byte b) (list_all is_name_byte text) (le-leb 32 b (omega (arith, local_high b parts.0))) (local_names text parts.1)

local_ascii : (text : List ℕ) → list_all is_local_byte text ≡ true → IsAscii text
local_ascii [] h = IsAscii-nil
local_ascii (b ∷ text) h =
    let parts = and_parts (is_local_byte b) (list_all is_local_byte text) h in
    IsAscii-cons b text (local_low b parts.0) (local_ascii text parts.1)

local_plain : (text : List ℕ) → list_all is_local_byte text ≡ true → has_noncharacter text ≡ false
local_plain [] h = refl
local_plain (b ∷ text) h =
    let parts = and_parts (is_local_byte b) (list_all is_local_byte text) h in
    let other : (b ≡ 239) → ⊥ = λ e. omega (arith, local_low b parts.0) in
    or_from (begins_noncharacter (b ∷ text)) (has_noncharacter text) (and_left _ _ (and_left _ _ (ne_eqb b 239 other))) (local_plain text parts.1)

short : (n : ℕ) → is_between 1 32 n ≡ true → is_between 1 100 n ≡ true
short n h = grind (arith, nat_tests)

-- a label is a name
pub label_is_name : (text : List ℕ) → is_label text ≡ true → is_name text ≡ true
label_is_name text h =
    let parts = and_parts (is_between 1 32 (length text)) (list_all is_local_byte text) h in
    let local = parts.1 in
    and_from _ _
    (and_from _ _ (and_from _ _ (short (length text) parts.0) (local_names text local)) (ap not (local_plain text local)))
    (is_utf8-from_IsUtf8 text (IsUtf8-from_ascii text (local_ascii text local)))
