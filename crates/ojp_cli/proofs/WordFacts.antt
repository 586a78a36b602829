-- Numbers that words name.
use Rattle.std.proofs.Common.{◌≡◌, ℕ, ◌<◌, ◌≤◌, ◌^◌, sym, ◌∙◌, arith}
use Rattle.std.specs.Fmt.{decimal}
use Rattle.std.proofs.lemmas.Fmt.{decimal_injective}
use Rattle.ojp_values.specs.Texts.{Text}

one_decimal : (word : Text) (a b : ℕ) → a < 2 ^ 32 → b < 2 ^ 32 → decimal a ≡ word → decimal b ≡ word → a ≡ b
one_decimal word a b la lb ea eb = decimal_injective a b (omega (arith, la)) (omega (arith, lb)) (ea ∙ sym eb)

-- a word that spells a number above the last order names no order
pub no_order : (word : Text) (number order : ℕ) → 10 < number → number < 2 ^ 32 → decimal number ≡ word → order ≤ 10 → decimal order ≡ word → ⊥
no_order word number order above below spelled low as_order =
    let same : order ≡ number = one_decimal word order number (omega (arith, low)) below as_order spelled in
    omega (arith, above, same, low)
