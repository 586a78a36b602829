-- Laws of days and numbers.
use Rattle.std.specs.Prelude.{◌≡◌, ◌↔◌, ◌<◌, ◌≤◌, ◌^◌, ℕ, IsTrue, decimal}
use Rattle.ojp_zones.specs.Days.{day_number}
use Rattle.ojp_zones.specs.Numbers.{is_number, number}
use Rattle.ojp_zones.specs.Parts.{Text}

-- the numbers of 1970-01-01, 2000-02-29, 2024-05-06, 2100-03-01 and 2199-12-31
abbrev pub DaysAreCounted : Type 0
DaysAreCounted =
    (day_number 1970 1 1 ≡ 0) × (day_number 2000 2 29 ≡ 11_016) × (day_number 2024 5 6 ≡ 19_849)
    × (day_number 2100 3 1 ≡ 47_541) × (day_number 2199 12 31 ≡ 84_005)

-- a text is a number from low to high just where it is the decimal text of one, and its number is that one
abbrev pub NumbersAreDecimal : Type 0
NumbersAreDecimal =
    (low high : ℕ) (text : Text) → high < 2 ^ 32
    → IsTrue (is_number low high text) ↔ ((n : ℕ) × (low ≤ n) × (n ≤ high) × (decimal n ≡ text) × (number text ≡ n))
