-- Days of the calendar as numbers.
use Rattle.std.specs.Prelude.{ℕ, ◌+◌, ◌-◌, pos, ◌==◌, cond}
use Rattle.jiff_core.specs.Calendar.{day_count}

-- the days from 1970-01-01 to the date, which is not before it
unfoldable pub day_number : ℕ → ℕ → ℕ → ℕ
day_number year month day = day_count (pos year) month day - 4_371_953

-- the first day of the month after
abbrev pub next_month : ℕ → ℕ → ℕ
next_month year month = cond (month == 12) (day_number (year + 1) 1 1) (day_number year (month + 1) 1)
