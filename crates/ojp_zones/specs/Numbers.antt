-- Numbers in decimal, within bounds.
use Rattle.std.specs.Prelude.{ℕ, Bool, ◌&&◌, ◌==◌, length, nat_le, cond, Option, Some, None}
use Rattle.ojp_zones.specs.Parts.{Text}
pub use Rattle.ojp_values.specs.Numbers.{are_digits, is_plain, number}

-- a number from low to high, without leading zeros
unfoldable pub is_number : ℕ → ℕ → Text → Bool
is_number low high text = is_plain text && nat_le low (number text) && nat_le (number text) high

-- two digits, up to most
unfoldable pub is_pair : ℕ → Text → Bool
is_pair most text = length text == 2 && are_digits text && nat_le (number text) most

-- one digit or two, up to most
unfoldable pub is_hour : ℕ → Text → Bool
is_hour most text = nat_le (length text) 2 && are_digits text && nat_le (number text) most

-- the number, where the text is one
abbrev pub number_if : Bool → Text → Option ℕ
number_if is text = cond is (Some (number text)) None
