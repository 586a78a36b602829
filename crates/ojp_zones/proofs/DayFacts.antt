-- The numbers of days from 1970 to 2200.
use Rattle.std.proofs.Common.{◌≡◌, ℕ, ◌+◌, ◌≤◌, ◌<◌, inl, inr, pos, ℤ, ◌+ℤ◌, refl, arith, ap, ◌∙◌}
use Rattle.std.proofs.lemmas.Int.{ints}
use Rattle.std.proofs.Math.Nat.{eq-or-lt_of_le}
use Rattle.jiff_core.proofs.MarchLemmas.{day_count-early}
use Rattle.jiff_core.proofs.SignedLemmas.{signed_arith}
use Rattle.jiff_core.specs.Calendar.{IsCivilDate, day_count, days_from_civil}
use Rattle.jiff_core.proofs.CalendarLemmas.{day_count-later_year, day_count-day_of_year, day_count-lt_year, day_count-epoch, day_count-next_year, days_in_month_bounds, days_in_year_bounds, days_from_civil-day_count}
use Rattle.ojp_values.specs.Dates.{date_of}
use Rattle.ojp_values.proofs.Calendar.{days_have_dates}
use Rattle.ojp_zones.specs.Days.{day_number}

pub year_from : (y : ℕ) → 1970 ≤ y → 4_371_953 ≤ day_count (pos y) 1 1
year_from y h =
    elim (eq-or-lt_of_le h) [
      | inl e ↦ omega (arith, day_count-epoch, ap (λ (n : ℕ). day_count (pos n) 1 1) e)
      | inr l ↦ omega (arith, day_count-epoch, day_count-later_year (pos 1970) (pos y) (omega (arith, ints)) (omega (arith, ints)))
    ]

pub month_from : (y m : ℕ) → 1970 ≤ y → 1 ≤ m → 4_371_953 ≤ day_count (pos y) m 1
month_from y m h k = omega (arith, year_from y h, day_count-day_of_year (pos y) m 1 (omega arith))

pub is_first : (y m : ℕ) → y ≤ 2200 → 1 ≤ m → m ≤ 12 → IsCivilDate (pos y) m 1
is_first y m h k l = ((omega (arith, ints), omega (arith, ints)), (k, l), (omega arith, omega (arith, days_in_month_bounds (pos y) m)))

pub month_to : (y m : ℕ) → y ≤ 2200 → 1 ≤ m → m ≤ 12 → day_count (pos y) m 1 < 4_456_324
month_to y m h k l =
    let e : day_count (pos 2201) 1 1 ≡ 4_456_324 = day_count-early (pos 2201) 12200 1 1 refl (omega arith) (omega arith) (omega arith) in
    omega (arith, e, day_count-lt_year (pos y) m 1 (pos 2201) 1 1 (is_first y m h k l) (omega arith) (omega (arith, ints)))

pub day_number-end : day_number 2200 1 1 ≡ 84_006
unfolding day_number
day_number-end =
    let e : day_count (pos 2200) 1 1 ≡ 4_455_959 = day_count-early (pos 2200) 12199 1 1 refl (omega arith) (omega arith) (omega arith) in
    omega (arith, e)

pub day_number-epoch : day_number 1970 1 1 ≡ 0
unfolding day_number
day_number-epoch = omega (arith, day_count-epoch)

-- the next year begins at least 365 days later
pub day_number-next_year : (y : ℕ) → 1970 ≤ y → day_number y 1 1 + 365 ≤ day_number (y + 1) 1 1
unfolding day_number
day_number-next_year y h =
    omega (arith, year_from y h, day_count-next_year (pos y) (pos (y + 1)) (omega (arith, ints)) (omega (arith, ints)), days_in_year_bounds (pos y))

-- the count that a date has from its number
pub count_from_min : (y : ℤ) (m d n : ℕ) → days_from_civil y m d +ℤ pos 4_371_587 ≡ pos n → n + 366 ≡ day_count y m d
count_from_min y m d n h = omega (arith, signed_arith, h, days_from_civil-day_count y m d)

pub count_is : (y m n : ℕ) (dy : ℤ) (dm dd : ℕ) → dy ≡ pos y → dm ≡ m → dd ≡ 1 → days_from_civil dy dm dd +ℤ pos 4_371_587 ≡ pos n → n + 366 ≡ day_count (pos y) m 1
count_is y m n dy dm dd ey em ed h = count_from_min dy dm dd n h ∙ cc

-- a year begins no later than a later one
pub years_rise : (y later : ℕ) → y ≤ later → day_number y 1 1 ≤ day_number later 1 1
unfolding day_number
years_rise y later h =
    elim (eq-or-lt_of_le h) [
      | inl e ↦ omega (arith, ap (λ (n : ℕ). day_count (pos n) 1 1) e)
      | inr l ↦ omega (arith, day_count-later_year (pos y) (pos later) (omega (arith, ints)) (omega (arith, ints)))
    ]

-- the day lies in the year of its date
pub in_its_year : (day : ℕ) → day ≤ 84_005 → (day_number (date_of day).year 1 1 ≤ day) × (day < day_number ((date_of day).year + 1) 1 1)
unfolding day_number
in_its_year day h =
    let found = days_have_dates day h in
    let date = date_of day in
    let low = day_count-day_of_year (pos date.year) date.month date.day found.0.civil.2.0 in
    let next = day_count-lt_year (pos date.year) date.month date.day (pos (date.year + 1)) 1 1 found.0.civil (omega arith) (omega (arith, ints)) in
    (omega (arith, found.1, low, day_count-epoch), omega (arith, found.1, next, day_count-epoch))
