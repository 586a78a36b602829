-- Numbers that words name.
use Rattle.std.proofs.Common.{◌≡◌, ℕ, ◌≤◌, arith}
use Rattle.std.specs.Fmt.{decimal}
use Rattle.ojp_values.specs.Texts.{Text}
use Rattle.ojp_regions.proofs.PortFacts.{one_decimal}
use Rattle.ojp_online.specs.Words.{IsNumber}

-- a word that spells 0 names no number from 1 on
pub no_number : (word : Text) (none number : ℕ) → none ≡ 0 → decimal none ≡ word → IsNumber word number → ⊥
no_number word none number e spelled is =
    let same : number ≡ none = one_decimal word number none is.high (omega (arith, e)) is.spelled spelled in
    let low : 1 ≤ number = is.low in
    omega (arith, e, same, low)
