-- Dates and moments, and their texts.
use Rattle.std.specs.Prelude.{◌≡◌, ℕ, zero, suc, ◌+◌, ◌-◌, ◌/◌, ◌%◌, ◌<◌, ◌≤◌, nat_lt, if◌then◌else◌, List, [], ◌∷◌, ◌++◌, pos}
use Rattle.ojp_values.specs.declared.dates.CalendarDate.{CalendarDate}
use Rattle.ojp_values.specs.declared.moments.TheConstants.{FIRST_DAY, LAST_DAY}
use Rattle.jiff_core.specs.Calendar.{IsCivilDate, day_count, days_in_year, days_in_month}

-- a day within a year or a month: the days from its first day on
pub record DayWithin : Type 0 where
  pub unit : ℕ
  pub rest : ℕ

-- whole years, from the year y on, are taken off n days
unfoldable pub year_place : ℕ → ℕ → ℕ → DayWithin
year_place zero y n = record { unit = y; rest = n }
year_place (suc k) y n =
    if nat_lt n (days_in_year (pos y)) then record { unit = y; rest = n }
    else year_place k (y + 1) (n - days_in_year (pos y))

-- whole months of the year y, from the month m on, are taken off n days
unfoldable pub month_place : ℕ → ℕ → ℕ → ℕ → DayWithin
month_place zero y m n = record { unit = m; rest = n }
month_place (suc k) y m n =
    if nat_lt n (days_in_month (pos y) m) then record { unit = m; rest = n }
    else month_place k y (m + 1) (n - days_in_month (pos y) m)

-- the date in a year, from the days since its 1 January
unfoldable pub date_in_year : DayWithin → CalendarDate
date_in_year p =
    let place = month_place 12 p.unit 1 p.rest in record { year = p.unit; month = place.unit; day = place.rest + 1 }

-- the date that many days after 1970-01-01, up to 2199-12-31
unfoldable pub date_of : ℕ → CalendarDate
date_of n = date_in_year (year_place 230 1970 n)

-- the calendar has the date, and it lies from 1970 to 2199
pub record IsDate (date : CalendarDate) : Type 0 where
  pub civil : IsCivilDate (pos date.year) date.month date.day
  pub from : 1970 ≤ date.year
  pub to : date.year ≤ 2199

-- the date comes n days after 1970-01-01
abbrev pub IsDayNumber : ℕ → CalendarDate → Type 0
IsDayNumber n date = day_count (pos date.year) date.month date.day ≡ day_count (pos 1970) 1 1 + n

-- the parts of the date can be written in four and two digits
pub record IsWritable (date : CalendarDate) : Type 0 where
  pub year : date.year < 10_000
  pub month : date.month < 100
  pub day : date.day < 100

-- a number in two digits
abbrev pub two : ℕ → List ℕ
two n = (48 + n / 10) ∷ (48 + n % 10) ∷ []

-- a number in four digits
abbrev pub four : ℕ → List ℕ
four n = two (n / 100) ++ two (n % 100)

-- a date is spelled YYYY-MM-DD
abbrev pub date_text : CalendarDate → List ℕ
date_text date = four date.year ++ 45 ∷ two date.month ++ 45 ∷ two date.day

-- a day is spelled as the date of its number
abbrev pub day_text : ℕ → List ℕ
day_text n = date_text (date_of n)

-- the time of day, s seconds after midnight, is spelled Thh:mm:ssZ
abbrev pub clock_text : ℕ → List ℕ
clock_text s = 84 ∷ two (s / 3_600) ++ 58 ∷ two (s / 60 % 60) ++ 58 ∷ two (s % 60) ++ 90 ∷ []

-- a moment is spelled as its date and its time of day, in UTC
abbrev pub moment_text : ℕ → List ℕ
moment_text s = day_text (s / 86_400) ++ clock_text (s % 86_400)

-- the day numbers up to 84,005 have dates of the calendar
abbrev pub DaysHaveDates : Type 0
DaysHaveDates = (n : ℕ) → n ≤ 84_005 → IsDate (date_of n) × IsDayNumber n (date_of n)

-- the dates of the calendar from 1970 to 2199 have such day numbers
abbrev pub DatesHaveDays : Type 0
DatesHaveDays = (date : CalendarDate) → IsDate date → (n : ℕ) × (n ≤ 84_005) × (date_of n ≡ date)

-- so many days are operating days
abbrev pub operating_days : ℕ
operating_days = LAST_DAY - FIRST_DAY + 1
