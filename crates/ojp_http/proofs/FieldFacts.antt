-- Counts and values of fields, one field more, and numbers, one digit more.
use Rattle.std.proofs.Common.{◌≡◌, ℕ, ◌+◌, ◌*◌, ◌^◌, ◌≤◌, ◌<◌, List, [], ◌∷◌, length, drop, get_or, ap, arith, suc}
use Rattle.std.proofs.Math.Seq.{drop-cons}
use Rattle.std.specs.Str.Parse.{digits_value_after}
use Rattle.std.specs.Char.{digit_value}

-- more digits do not lower a number
pub digits_value_after-le : (n : ℕ) (digits : List ℕ) → n ≤ digits_value_after 10 n digits
digits_value_after-le n [] = omega arith
digits_value_after-le n (c ∷ digits) = omega (arith, digits_value_after-le (n * 10 + digit_value c) digits)

-- a number whose next digit does not fit is above each that fits
pub number_over : (value most : ℕ) (text : List ℕ) (i d : ℕ) → i < length text
    → digits_value_after 10 value (drop i text) ≡ digits_value_after 10 0 text
    → 2 ^ 64 ≤ value * 10 + digit_value (get_or text i d) → most < 2 ^ 64 → most < digits_value_after 10 0 text
number_over value most text i d h inv over small =
    let next = value * 10 + digit_value (get_or text i d) in
    let e : digits_value_after 10 value (drop i text) ≡ digits_value_after 10 next (drop (suc i) text) =
    ap (digits_value_after 10 value) (drop-cons text i d h) in
    omega (arith, e, inv, over, small, digits_value_after-le next (drop (suc i) text))
