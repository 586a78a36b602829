-- Labels of services.
use Rattle.std.specs.Prelude.{ℕ, Bool, cond, false, List, [], ◌∷◌, ◌++◌, slice_index_or}
use Rattle.ojp_values.specs.Dates.{date_of, two, four}
use Rattle.ojp_values.specs.Texts.{Text}
use Rattle.ojp_values.specs.declared.dates.CalendarDate.{CalendarDate}
use Rattle.ojp_calendars.specs.declared.day_box.DayBox.{DayBox}

-- a date is spelled YYYYMMDD
abbrev pub compact : CalendarDate → Text
compact date = four date.year ++ two date.month ++ two date.day

-- a day is spelled as its date
abbrev pub compact_date : ℕ → Text
compact_date day = compact (date_of day)

-- the letter of a marked weekday, and `-` (45) for another
abbrev pub letter : Bool → ℕ → ℕ
letter marked sign = cond marked sign 45

abbrev pub letter_at : List Bool → ℕ → ℕ → ℕ
letter_at weekdays i sign = letter (slice_index_or weekdays i false) sign

-- MTWTFSS, with `-` for each weekday that is not marked
abbrev pub letters : List Bool → Text
letters weekdays =
    letter_at weekdays 0 77 ∷ letter_at weekdays 1 84 ∷ letter_at weekdays 2 87 ∷ letter_at weekdays 3 84
    ∷ letter_at weekdays 4 70 ∷ letter_at weekdays 5 83 ∷ letter_at weekdays 6 83 ∷ []

-- the first day, the last day and the weekdays, as 20261214-20261224-MT-TF--
unfoldable pub label_text : DayBox → Text
label_text days = compact_date days.first ++ 45 ∷ compact_date days.last ++ 45 ∷ letters days.weekdays
