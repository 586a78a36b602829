-- Numbers in a range by their decimal texts.
use Rattle.std.proofs.Common.{◌≡◌, ℕ, ◌≤◌, ◌<◌, ◌^◌, true, refl, subst, arith}
use Rattle.std.specs.Fmt.{decimal}
use Rattle.std.proofs.lemmas.Bool.{leb-true, le-leb, and_from}
use Rattle.ojp_values.specs.Numbers.{is_plain, number}
use Rattle.ojp_values.proofs.Escapes.{and_true_left, and_true_right}
use Rattle.ojp_values.proofs.Numerals.{decimal_of, number_of, plain_of}
use Rattle.ojp_zones.specs.Laws.{NumbersAreDecimal}
use Rattle.ojp_zones.specs.Numbers.{is_number}
use Rattle.ojp_zones.specs.Parts.{Text}

number_in : (low high : ℕ) (text : Text) → is_number low high text ≡ true → (is_plain text ≡ true) × (low ≤ number text) × (number text ≤ high)
unfolding is_number
number_in low high text h =
    let front = and_true_left _ _ h in
    (and_true_left _ _ front, leb-true low (number text) (and_true_right _ _ front), leb-true (number text) high (and_true_right _ _ h))

in_number : (low high n : ℕ) → n < 2 ^ 64 → low ≤ n → n ≤ high → is_number low high (decimal n) ≡ true
unfolding is_number
in_number low high n small from to =
    let is = number_of n small in
    and_from _ _ (and_from _ _ (plain_of n small) (le-leb low _ (omega (arith, is, from)))) (le-leb _ high (omega (arith, is, to)))

pub numbers_are_decimal : NumbersAreDecimal
numbers_are_decimal low high text bound = (
  λ is.
      let it = number_in low high text is in
      (number text, it.1, it.2, decimal_of text it.0 (omega (arith, it.2, bound)), refl),
  λ given. subst (λ (t : Text). is_number low high t ≡ true) given.3 (in_number low high given.0 (omega (arith, given.2, bound)) given.1 given.2),
)
