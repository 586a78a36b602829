-- Sets of operating days, and the boxes that make one up.
use Rattle.std.specs.Prelude.{◌≡◌, ℕ, ◌+◌, ◌-◌, ◌%◌, Bool, false, ◌&&◌, nat_le, cond, List, count_by, IsTrue, slice_index_or}
use Rattle.ojp_calendars.specs.declared.day_box.DayBox.{DayBox}

-- the weekday of a day, where Monday is 0; day 0, 1970-01-01, is a Thursday
abbrev pub weekday : ℕ → ℕ
weekday day = (day + 3) % 7

-- a set of days has this one, where its marks are those of the days from the first on
unfoldable pub has_day : ℕ → List Bool → ℕ → Bool
has_day first marks day = nat_le first day && slice_index_or marks (day - first) false

-- the day is under the box: it lies from the first day to the last, on a marked weekday
unfoldable pub covers : DayBox → ℕ → Bool
covers days day = nat_le days.first day && nat_le day days.last && slice_index_or days.weekdays (weekday day) false

-- so many of the boxes are over the day
unfoldable pub boxes_over : ℕ → List DayBox → ℕ
boxes_over day boxes = count_by (λ days. covers days day) boxes

-- each day of the set is under exactly one box, and no other day is under any
abbrev pub AreExact : ℕ → List Bool → List DayBox → Type 0
AreExact first marks boxes = (day : ℕ) → boxes_over day boxes ≡ cond (has_day first marks day) 1 0

-- the first and the last day of the box are under it
abbrev pub IsTight : DayBox → Type 0
IsTight days = IsTrue (covers days days.first) × IsTrue (covers days days.last)
