-- Ports and the numbers that texts spell.
use Rattle.std.proofs.Common.{◌≡◌, ℕ, ◌<◌, ◌≤◌, ◌^◌, sym, ◌∙◌, arith}
use Rattle.std.specs.Fmt.{decimal}
use Rattle.std.proofs.lemmas.Fmt.{decimal_injective}
use Rattle.ojp_values.specs.Texts.{Text}
use Rattle.ojp_regions.specs.Hosts.{IsPort}

pub one_decimal : (word : Text) (a b : ℕ) → a < 2 ^ 32 → b < 2 ^ 32 → decimal a ≡ word → decimal b ≡ word → a ≡ b
one_decimal word a b la lb ea eb = decimal_injective a b (omega (arith, la)) (omega (arith, lb)) (ea ∙ sym eb)

-- a text that spells 0 spells no port
pub no_zero : (word : Text) (none port : ℕ) → none ≡ 0 → decimal none ≡ word → IsPort port → decimal port ≡ word → ⊥
no_zero word none port e spelled is as_port =
    let same : port ≡ none = one_decimal word port none (omega (arith, is.1)) (omega (arith, e)) as_port spelled in
    omega (arith, e, same, is.0)

-- nor does a text that spells a number past the last port
pub no_port : (word : Text) (number port : ℕ) → 2 ^ 16 ≤ number → number < 2 ^ 32 → decimal number ≡ word → IsPort port → decimal port ≡ word → ⊥
no_port word number port above high spelled is as_port =
    let same : port ≡ number = one_decimal word port number (omega (arith, is.1)) high as_port spelled in
    omega (arith, above, same, is.1)
