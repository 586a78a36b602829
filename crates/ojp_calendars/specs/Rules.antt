-- The rules that are tried where neither the file's last line nor one offset fits.
use Rattle.std.specs.Prelude.{◌≡◌, ◌≢◌, ℕ, ℤ, ◌+◌, ◌-◌, ◌/◌, ◌%◌, ◌<◌, ◌≤◌, ◌⊎◌, List, Contains}
use Rattle.ojp_values.specs.Dates.{date_of}
use Rattle.jiff_tz.specs.declared.tzif.Tzif.{Tzif}
use Rattle.ojp_zones.specs.Parts.{Text}
use Rattle.ojp_zones.specs.declared.zone.DateRule.{DateRule}
use Rattle.ojp_calendars.specs.Noons.{Fits, east_at}
use Rattle.ojp_calendars.specs.Texts.{offset_text, rule_text}

-- the day as a date of each year: which such weekday of its month it is, where Sunday is 0
unfoldable pub nth_date : ℕ → DateRule
nth_date day = record { month = (date_of day).month; week = ((date_of day).day - 1) / 7 + 1; weekday = (day + 4) % 7 }

-- the last such weekday of its month
abbrev pub last_date : ℕ → DateRule
last_date day = record (nth_date day) { week = 5 }

-- the date is the day's, in one of these two ways
abbrev pub IsDateOf : ℕ → DateRule → Type 0
IsDateOf day date = (date ≡ nth_date day) ⊎ (date ≡ last_date day)

-- on the day another offset holds than on the day before
abbrev pub IsChange : Tzif → ℕ → Type 0
IsChange table day = east_at table day ≢ east_at table (day - 1)

-- the day is the first of the window, or a later one on which another offset holds than before
abbrev pub IsMark : Tzif → ℕ → ℕ → ℕ → Type 0
IsMark table first last day = (first ≤ day) × (day ≤ last) × ((day ≡ first) ⊎ IsChange table day)

-- the dates are among these in both ways
abbrev pub HasDates : List DateRule → ℕ → Type 0
HasDates dates day = Contains dates (nth_date day) × Contains dates (last_date day)

-- what was among the dates still is
abbrev pub GrowsBy : List DateRule → List DateRule → Type 0
GrowsBy old new = (date : DateRule) → Contains old date → Contains new date

-- the dates of each mark of the window are among these
abbrev pub HasMarks : Tzif → ℕ → ℕ → List DateRule → Type 0
HasMarks table first last dates = (day : ℕ) → IsMark table first last day → HasDates dates day

-- the offset of the first day holds on each day of the window
abbrev pub IsSteady : Tzif → ℕ → ℕ → Type 0
IsSteady table first last = (day : ℕ) → first ≤ day → day ≤ last → east_at table day ≡ east_at table first

-- the day is the first of the window on which another offset holds than on its first day
pub record IsFirstChange (table : Tzif) (first last day : ℕ) : Type 0 where
  pub from : first < day
  pub to : day ≤ last
  pub other : east_at table day ≢ east_at table first
  pub before : (d : ℕ) → first ≤ d → d < day → east_at table d ≡ east_at table first

-- with these offsets no rule fits whose second offset holds from that date on and before one of these
abbrev pub NoRuleFits : Tzif → ℕ → ℕ → ℤ → ℤ → DateRule → List DateRule → Type 0
NoRuleFits table first last east second from dates =
    (to : DateRule) → Contains dates to → ¬ Fits table first last (rule_text east second from to)

-- with these offsets no rule fits that has two of the dates
abbrev pub NoPairFits : Tzif → ℕ → ℕ → ℤ → ℤ → List DateRule → Type 0
NoPairFits table first last east second dates =
    (from : DateRule) → Contains dates from → NoRuleFits table first last east second from dates

-- no rule fits that has the offset of the first day and the first other one, and dates of marks of the window
abbrev pub NoChangeFits : Tzif → ℕ → ℕ → Type 0
NoChangeFits table first last =
    (change from_day to_day : ℕ) (from to : DateRule) → IsFirstChange table first last change
    → IsMark table first last from_day → IsMark table first last to_day → IsDateOf from_day from → IsDateOf to_day to
    → ¬ Fits table first last (rule_text (east_at table first) (east_at table change) from to)

-- none of the texts that are made of the table fits: the offset of the first day, and the rules of the changes
pub record NoMadeFits (table : Tzif) (first last : ℕ) : Type 0 where
  pub offset_unfit : ¬ Fits table first last (offset_text (east_at table first))
  pub rules_unfit : NoChangeFits table first last

-- none of the texts that are tried fits: neither the file's last line nor those that are made of the table
pub record NoneFits (table : Tzif) (line : Text) (first last : ℕ) : Type 0 where
  pub line_unfit : ¬ Fits table first last line
  pub made_unfit : NoMadeFits table first last
