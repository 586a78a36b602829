-- The noon of each day in a zone.
use Rattle.std.specs.Prelude.{◌≡◌, ℕ, ℤ, pos, neg_ℤ, Bool, ◌&&◌, ◌||◌, ◌==◌, cond, nat_le, nat_lt, ◌+◌, ◌-◌, ◌*◌, ◌%◌, ◌≤◌, ◌<◌, ◌-ℤ◌, ◌≤ℤ◌, zero, suc, List, [], ◌∷◌, length, slice_index, slice_index_or, Option, Some, None, IfSome, unsigned_abs}
use Rattle.ojp_values.specs.Dates.{date_of, operating_days}
use Rattle.ojp_values.specs.declared.moments.TheConstants.{FIRST_DAY}
use Rattle.ojp_zones.specs.Days.{day_number, next_month}
use Rattle.ojp_zones.specs.declared.zone.DateRule.{DateRule}
use Rattle.ojp_zones.specs.declared.zone.Summer.{Summer}
use Rattle.ojp_zones.specs.declared.zone.Zone.{Zone}
use Rattle.ojp_zones.specs.declared.year.Season.{Season}
use Rattle.ojp_zones.specs.declared.year.Year.{Year}

-- the first day of that weekday from the day on, where 0 is Sunday
abbrev pub first_on : ℕ → ℕ → ℕ
first_on weekday day = day + (weekday + 7 - (day + 4) % 7) % 7

-- of the weekdays from start on the fifth, or the fourth where the next month has begun by then
abbrev pub last_of : ℕ → ℕ → ℕ
last_of start next = cond (nat_lt (start + 28) next) (start + 28) (start + 21)

abbrev pub nth_of : ℕ → ℕ → ℕ → ℕ
nth_of week start next = cond (week == 5) (last_of start next) (start + 7 * (week - 1))

-- the day of the rule in the year: the w-th such weekday of the month, and for w 5 the last
unfoldable pub change_day : ℕ → DateRule → ℕ
change_day year rule =
    nth_of rule.week (first_on rule.weekday (day_number year rule.month 1)) (next_month year rule.month)

-- the second offset holds at noon of the day, where the changes are on the days a and b
abbrev pub is_second : ℕ → ℕ → ℕ → Bool
is_second a b day = (nat_le a day && nat_lt day b) || (nat_lt b a && (nat_lt day b || nat_le a day))

abbrev pub east_between : ℤ → ℤ → ℕ → ℕ → ℕ → ℤ
east_between first second a b day = cond (is_second a b day) second first

abbrev pub east_by : ℤ → Option Summer → ℕ → ℕ → ℤ
east_by east None year day = east
east_by east (Some summer) year day =
    east_between east summer.east (change_day year summer.from) (change_day year summer.to) day

-- the seconds east of UTC at noon of a day of the year
abbrev pub east_on : Zone → ℕ → ℕ → ℤ
east_on zone year day = east_by zone.east zone.summer year day

-- the moment is that of the zone's noon of the day, which lies in the year
pub record IsNoon (zone : Zone) (day moment : ℕ) : Type 0 where
  pub year : ℕ
  pub begun : day_number year 1 1 ≤ day
  pub unended : day < day_number (year + 1) 1 1
  pub is : pos moment ≡ pos (86400 * day + 43200) -ℤ east_on zone year day

-- the moments are the noons of the days from the first operating day on
pub record AreNoons (zone : Zone) (noons : List ℕ) : Type 0 where
  pub noon : (day : ℕ) → FIRST_DAY ≤ day → day < FIRST_DAY + length noons → IsNoon zone day (slice_index noons (day - FIRST_DAY))

-- the moment of the zone's noon of the day
unfoldable pub noon_of : Zone → ℕ → ℕ
noon_of zone day = unsigned_abs (pos (86400 * day + 43200) -ℤ east_on zone (date_of day).year day)

-- the noons of so many days from the first on
unfoldable pub noons_from : Zone → ℕ → ℕ → List ℕ
noons_from zone first zero = []
noons_from zone first (suc days) = noon_of zone first ∷ noons_from zone (first + 1) days

-- the noons of the operating days
unfoldable pub noons_of : Zone → List ℕ
noons_of zone = noons_from zone FIRST_DAY operating_days

-- the numbers of a date rule are in range
abbrev pub IsRule : DateRule → Type 0
IsRule rule = (1 ≤ rule.month) × (rule.month ≤ 12) × (1 ≤ rule.week) × (rule.week ≤ 5) × (rule.weekday ≤ 6)

-- at most 15:59 from UTC
abbrev pub IsOffset : ℤ → Type 0
IsOffset east = (neg_ℤ (pos 57540) ≤ℤ east) × (east ≤ℤ pos 57540)

abbrev pub IsSummer : Summer → Type 0
IsSummer summer = IsOffset summer.east × IsRule summer.from × IsRule summer.to

-- the offsets and the dates of the zone are in range
abbrev pub IsZone : Zone → Type 0
IsZone zone = IsOffset zone.east × IfSome zone.summer IsSummer

-- no noon is further from that of UTC than an offset may be
pub record AreNear (noons : List ℕ) : Type 0 where
  pub low : (day : ℕ) → FIRST_DAY ≤ day → day < FIRST_DAY + length noons → 86400 * day + 43200 ≤ slice_index noons (day - FIRST_DAY) + 57540
  pub high : (day : ℕ) → FIRST_DAY ≤ day → day < FIRST_DAY + length noons → slice_index noons (day - FIRST_DAY) ≤ 86400 * day + 43200 + 57540

-- the second offset of the zone in the year, with the days of its changes
abbrev pub IsSeason : Option Summer → ℕ → Option Season → Type 0
IsSeason None year None = Unit {0}
IsSeason None year (Some season) = ⊥
IsSeason (Some summer) year None = ⊥
IsSeason (Some summer) year (Some season) =
    (season.east ≡ summer.east) × (season.from ≡ change_day year summer.from) × (season.to ≡ change_day year summer.to)

-- what is kept of a year from 1970 to 2199
pub record IsYear (zone : Zone) (year : Year) : Type 0 where
  pub from : 1970 ≤ year.number
  pub to : year.number < 2200
  pub next : year.next ≡ day_number (year.number + 1) 1 1
  pub season : IsSeason zone.summer year.number year.season

-- the years are those from 1970 on
pub record AreYears (zone : Zone) (years : List Year) : Type 0 where
  pub each : (i : ℕ) (d : Year) → i < length years → IsYear zone (slice_index_or years i d) × ((slice_index_or years i d).number ≡ 1970 + i)

-- the zone is in range, and the years are all from 1970 to 2199
pub record AreAllYears (zone : Zone) (years : List Year) : Type 0 where
  pub zone_in_range : IsZone zone
  pub each_year : AreYears zone years
  pub count : length years ≡ 230

-- the year of that number is one of the years, and the day lies in it
pub record HoldsDay (zone : Zone) (years : List Year) (day i : ℕ) : Type 0 where
  pub inside : i < length years
  pub is : (d : Year) → IsYear zone (slice_index_or years i d)
  pub begun : (d : Year) → day_number (slice_index_or years i d).number 1 1 ≤ day
  pub unended : (d : Year) → day < day_number ((slice_index_or years i d).number + 1) 1 1
