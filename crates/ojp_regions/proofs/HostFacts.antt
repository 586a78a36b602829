-- A host is text.
use Rattle.std.proofs.Common.{◌≡◌, ℕ, zero, suc, ◌<◌, true, arith, [], ◌∷◌, lit<}
use Rattle.std.specs.Prelude.{IsTrue, slice_index}
use Rattle.std.specs.List.{list_all}
use Rattle.std.specs.Str.{IsUtf8}
use Rattle.std.proofs.lemmas.Bool.Decides.{nat_tests}
use Rattle.std.proofs.lemmas.Str.{IsUtf8-from_ascii}
use Rattle.ojp_values.proofs.Escapes.{and_true_left, and_true_right}
use Rattle.ojp_values.specs.Texts.{Text}
use Rattle.ojp_regions.specs.Hosts.{is_host, is_host_byte}

byte_is_ascii : (b : ℕ) → is_host_byte b ≡ true → b < 128
byte_is_ascii b h = grind (arith, nat_tests)

bytes_are_ascii : (text : Text) → list_all is_host_byte text ≡ true → (i : ℕ) → slice_index text i < 128
bytes_are_ascii [] h i = lit< tt
bytes_are_ascii (b ∷ text) h zero = byte_is_ascii b (and_true_left _ _ h)
bytes_are_ascii (b ∷ text) h (suc i) = bytes_are_ascii text (and_true_right _ _ h) i

pub host_is_utf8 : (text : Text) → IsTrue (is_host text) → IsUtf8 text
host_is_utf8 text is = IsUtf8-from_ascii text (bytes_are_ascii text (and_true_right _ _ is))
