-- The test for UTF-8 and the fact agree.
use Rattle.std.proofs.Common.{◌≡◌, ℕ, Bool, true, false, List, refl, sym}
use Rattle.std.specs.Str.{IsUtf8, is_utf8}
use Rattle.std.proofs.lemmas.Str.{IsUtf8-from_is_utf8, is_utf8-from_IsUtf8}

false-from_no : (b : Bool) → (b ≡ true → ⊥) → b ≡ false
false-from_no true fails = absurd (fails refl)
false-from_no false fails = refl

pub is_utf8_true : (bytes : List ℕ) → IsUtf8 bytes → true ≡ is_utf8 bytes
is_utf8_true bytes h = sym (is_utf8-from_IsUtf8 bytes h)

pub is_utf8_false : (bytes : List ℕ) → ¬ (IsUtf8 bytes) → false ≡ is_utf8 bytes
is_utf8_false bytes fails = sym (false-from_no (is_utf8 bytes) (λ e. fails (IsUtf8-from_is_utf8 bytes e)))
