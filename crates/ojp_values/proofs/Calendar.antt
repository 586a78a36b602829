-- Day numbers and the dates of the calendar from 1970 to 2199 belong together.
use Rattle.std.proofs.Common.{◌≡◌, ℕ, zero, suc, ◌+◌, ◌-◌, ◌*◌, ◌/◌, ◌%◌, ◌<◌, ◌≤◌, ◌++◌, List, Option, Some, None, MatchOption, nat_lt, get_or, take, drop, refl, sym, ap, ◌∙◌, subst, arith, ℤ, pos, unsigned_abs, ◌+ℤ◌}
use Rattle.std.proofs.lemmas.Int.{by_lt_z}
use Rattle.std.proofs.lemmas.Bool.{cond_both, ltb-true, ltb-false}
use Rattle.jiff_core.specs.Calendar.{IsCivilDate, days_from_civil, day_count, days_in_year, days_in_month, days_of_months}
use Rattle.jiff_core.proofs.SignedLemmas.{signed_arith}
use Rattle.jiff_core.proofs.MarchLemmas.{day_count-early}
use Rattle.jiff_core.proofs.CalendarLemmas.{days_from_civil-day_count, day_count-lt_year, day_count-epoch, day_count-next_year, day_count-later_year, day_count-day_of_year, days_of_months-zero, days_of_months_more, days_of_months_all, days_in_month_bounds}
use Rattle.jiff_core.specs.declared.civil.date.Date.{Date}
use Rattle.jiff_core.proofs.DateLemmas.{civil, epoch_day_injective}
use Rattle.jiff_core.specs.Date.{epoch_day, IsYmd}
use Rattle.ojp_values.specs.declared.dates.CalendarDate.{CalendarDate}
use Rattle.ojp_values.specs.declared.moments.TheConstants.{FIRST_DAY, LAST_DAY}
use Rattle.ojp_values.specs.Numbers.{Reads}
use Rattle.ojp_values.specs.Dates.{DayWithin, year_place, month_place, date_in_year, date_of, IsDate, IsDayNumber, IsWritable, two, four, date_text, day_text, DaysHaveDates, DatesHaveDays}

-- the year 2200 begins 84,006 days after 1970
day_count-end : day_count (pos 2200) 1 1 ≡ 4_455_959
day_count-end = day_count-early (pos 2200) 12199 1 1 refl (omega arith) (omega arith) (omega arith)

next_year : (y : ℕ) → day_count (pos (y + 1)) 1 1 ≡ day_count (pos y) 1 1 + days_in_year (pos y)
next_year y = day_count-next_year (pos y) (pos (y + 1)) (omega (arith, signed_arith)) (omega (arith, signed_arith))

-- p is a year from `first` on and before `last`, and a day of it, n days after the first year's first day
record IsYearPlace (first last n : ℕ) (p : DayWithin) : Type 0 where
  same : day_count (pos p.unit) 1 1 + p.rest ≡ day_count (pos first) 1 1 + n
  within : p.rest < days_in_year (pos p.unit)
  from : first ≤ p.unit
  to : p.unit < last

year_place_is : (k y last n : ℕ) → y + k ≡ last → day_count (pos y) 1 1 + n < day_count (pos last) 1 1
    → IsYearPlace y last n (year_place k y n)
unfolding year_place
year_place_is zero y last n e h =
    let same : y ≡ last = omega (arith, e) in absurd (omega (arith, h, ap (λ z. day_count (pos z) 1 1) same))
year_place_is (suc k) y last n e h =
    cond_both (nat_lt n (days_in_year (pos y))) _ _ (IsYearPlace y last n)
    (λ lt. record { same = refl; within = ltb-true n (days_in_year (pos y)) lt; from = omega arith; to = omega (arith, e) })
    (λ ge.
    let late = ltb-false n (days_in_year (pos y)) ge in
    let more = year_place_is k (y + 1) last (n - days_in_year (pos y)) (omega (arith, e)) (omega (arith, h, late, next_year y)) in
    record {
      same = omega (arith, more.same, late, next_year y);
      within = more.within;
      from = omega (arith, more.from);
      to = more.to;
    })

-- p is a month of the year, and a day of it, n days after the first day of the month `first`
record IsMonthPlace (y first n : ℕ) (p : DayWithin) : Type 0 where
  same : days_of_months (pos y) (p.unit - 1) + p.rest ≡ days_of_months (pos y) (first - 1) + n
  within : p.rest < days_in_month (pos y) p.unit
  from : first ≤ p.unit
  to : p.unit ≤ 12

month_place_is : (k y m n : ℕ) → 1 ≤ m → m + k ≡ 13 → days_of_months (pos y) (m - 1) + n < days_of_months (pos y) 12
    → IsMonthPlace y m n (month_place k y m n)
unfolding month_place
month_place_is zero y m n low e h =
    let last : m - 1 ≡ 12 = omega (arith, e) in absurd (omega (arith, h, ap (λ z. days_of_months (pos y) z) last))
month_place_is (suc k) y m n low e h =
    cond_both (nat_lt n (days_in_month (pos y) m)) _ _ (IsMonthPlace y m n)
    (λ lt. record { same = refl; within = ltb-true n (days_in_month (pos y) m) lt; from = omega arith; to = omega (arith, e) })
    (λ ge.
    let late = ltb-false n (days_in_month (pos y) m) ge in
    let back : m + 1 - 1 ≡ m = omega arith in
    let whole = ap (λ z. days_of_months (pos y) z) back in
    let more = month_place_is k y (m + 1) (n - days_in_month (pos y) m) (omega arith) (omega (arith, e))
    (omega (arith, h, late, whole, days_of_months_more (pos y) m low)) in
    record {
      same = omega (arith, more.same, late, whole, days_of_months_more (pos y) m low);
      within = more.within;
      from = omega (arith, more.from);
      to = more.to;
    })

-- the place of a day in its year is a date, with its day number
date_in_year_is : (n : ℕ) (p : DayWithin) → IsYearPlace 1970 2200 n p → IsDate (date_in_year p) × IsDayNumber n (date_in_year p)
unfolding date_in_year
date_in_year_is n p year =
    let place = month_place 12 p.unit 1 p.rest in
    let month = month_place_is 12 p.unit 1 p.rest (omega arith) (omega arith)
    (omega (arith, year.within, days_of_months_all (pos p.unit), days_of_months-zero (pos p.unit))) in (
      record {
        civil = (
          (omega (arith, signed_arith, year.from, year.to), omega (arith, signed_arith, year.from, year.to)),
          (month.from, month.to),
          (omega arith, omega (arith, month.within)),
        );
        from = year.from;
        to = omega (arith, year.to);
      },
      omega (
        arith,
        year.same,
        month.same,
        days_of_months-zero (pos p.unit),
        day_count-day_of_year (pos p.unit) place.unit (place.rest + 1) (omega arith),
      ),
    )

pub days_have_dates : DaysHaveDates
unfolding date_of
days_have_dates n h =
    date_in_year_is n (year_place 230 1970 n) (year_place_is 230 1970 2200 n refl (omega (arith, h, day_count-epoch, day_count-end)))

-- the date as the calendar's own
civil_date : (date : CalendarDate) → IsCivilDate (pos date.year) date.month date.day → Date
civil_date date h =
    record { year = pos date.year; month = date.month; day = date.day; year_in = h.0; month_in = h.1; day_in = h.2 }

same_epoch : (y : ℤ) (m d : ℕ) (y₂ : ℤ) (m₂ d₂ : ℕ) → day_count y m d ≡ day_count y₂ m₂ d₂
    → days_from_civil y m d ≡ days_from_civil y₂ m₂ d₂
same_epoch y m d y₂ m₂ d₂ e =
    omega (arith, signed_arith, e, days_from_civil-day_count y m d, days_from_civil-day_count y₂ m₂ d₂)

-- a date is known by its day number
pub civil_unique : (a b : CalendarDate) → IsCivilDate (pos a.year) a.month a.day → IsCivilDate (pos b.year) b.month b.day
    → day_count (pos a.year) a.month a.day ≡ day_count (pos b.year) b.month b.day → a ≡ b
unfolding civil_date
civil_unique a b h k e =
    let same = epoch_day_injective (civil_date a h) (civil_date b k) (same_epoch _ _ _ _ _ _ e) in
    let year : a.year ≡ b.year = omega (arith, signed_arith, same.0) in
    λ i. record { year = year i; month = same.1 i; day = same.2 i }

-- the date lies between the first day of 1970 and that of 2200
date_bounds : (date : CalendarDate) → IsDate date
    → (day_count (pos 1970) 1 1 ≤ day_count (pos date.year) date.month date.day)
    × (day_count (pos date.year) date.month date.day < day_count (pos 2200) 1 1)
date_bounds date h =
    let low = day_count-day_of_year (pos date.year) date.month date.day h.civil.2.0 in (
      by_lt_z (pos 1970) (pos date.year)
          (λ lt. omega (arith, low, h.civil.2.0, day_count-later_year (pos 1970) (pos date.year) (omega (arith, signed_arith)) lt))
          (λ le.
          let same : 1970 ≡ date.year = omega (arith, signed_arith, le, h.from) in
          omega (arith, low, h.civil.2.0, ap (λ y. day_count (pos y) 1 1) same)),
      day_count-lt_year (pos date.year) date.month date.day (pos 2200) 1 1 h.civil (omega arith) (omega (arith, signed_arith, h.to)),
    )

-- the number of a date
abbrev number_of : CalendarDate → ℕ
number_of date = day_count (pos date.year) date.month date.day - day_count (pos 1970) 1 1

pub date_of_number : (date : CalendarDate) → IsDate date → (n : ℕ) → IsDayNumber n date → (n ≤ 84_005) × (date_of n ≡ date)
date_of_number date h n e =
    let small : n ≤ 84_005 = omega (arith, e, (date_bounds date h).1, day_count-epoch, day_count-end) in
    let found = days_have_dates n small in
    (small, civil_unique (date_of n) date found.0.civil h.civil (found.1 ∙ sym e))

pub dates_have_days : DatesHaveDays
dates_have_days date h =
    let found = date_of_number date h (number_of date) (omega (arith, (date_bounds date h).0)) in
    (number_of date, found.0, found.1)

-- the calendar's date with that day number is the date of the number
pub date_of_is : (n : ℕ) → n ≤ 84_005 → (D : Date) → epoch_day D +ℤ pos 4_371_587 ≡ pos (n + 4_371_587)
    → record { year = unsigned_abs D.year; month = D.month; day = D.day } ≡ date_of n
unfolding civil_date
date_of_is n h D e =
    let found = days_have_dates n h in
    let date = date_of n in
    let same = epoch_day_injective D (civil_date date found.0.civil)
    (omega (arith, signed_arith, e, found.1, day_count-epoch, days_from_civil-day_count (pos date.year) date.month date.day)) in
    λ i. record { year = unsigned_abs (same.0 i); month = same.1 i; day = same.2 i }

-- the calendar's number of a date from 1970 to 2199
pub day_of_is : (date : CalendarDate) → 1970 ≤ date.year → date.year ≤ 2199 → (D : Date) (k : ℕ)
    → epoch_day D +ℤ pos 4_371_587 ≡ pos k → IsYmd (pos date.year) (pos date.month) (pos date.day) D
    → (4_371_587 ≤ k) × (k - 4_371_587 ≤ 84_005) × (date_of (k - 4_371_587) ≡ date)
day_of_is date from to D k e parts =
    let month : D.month ≡ date.month = omega (arith, signed_arith, parts.1) in
    let day : D.day ≡ date.day = omega (arith, signed_arith, parts.2) in
    let in_year : ℤ → Type 0 = λ y. IsCivilDate y D.month D.day in
    let in_month : ℕ → Type 0 = λ m. IsCivilDate (pos date.year) m D.day in
    let on_day : ℕ → Type 0 = λ d. IsCivilDate (pos date.year) date.month d in
    let own = subst on_day day (subst in_month month (subst in_year parts.0 (civil D))) in
    let is : IsDate date = record { civil = own; from = from; to = to } in
    let count : day_count D.year D.month D.day ≡ day_count (pos date.year) date.month date.day = rw (parts.0, month, day) refl in
    let number : 4_371_953 + k ≡ 4_371_587 + day_count (pos date.year) date.month date.day
    = omega (arith, signed_arith, e, count, days_from_civil-day_count D.year D.month D.day) in
    let low : 4_371_587 ≤ k = omega (arith, number, (date_bounds date is).0, day_count-epoch) in
    let found = date_of_number date is (k - 4_371_587) (omega (arith, number, low, day_count-epoch)) in
    (low, found.0, found.1)

-- a number of two pairs of digits
pub four_of : (high low : ℕ) → low < 100 → four (high * 100 + low) ≡ two high ++ two low
four_of high low h =
    let quotient : (high * 100 + low) / 100 ≡ high = omega (arith, h) in
    let remainder : (high * 100 + low) % 100 ≡ low = omega (arith, h) in
    rw (quotient, remainder) refl

-- a date of the calendar can be written
pub date_is_writable : (date : CalendarDate) → IsDate date → IsWritable date
date_is_writable date h =
    record {
      year = omega (arith, h.to);
      month = omega (arith, h.civil.1.1);
      day = omega (arith, h.civil.2.1, (days_in_month_bounds (pos date.year) date.month).0);
    }

pub two_injective : (m n : ℕ) → two m ≡ two n → m ≡ n
two_injective m n e =
    let tens : 48 + m / 10 ≡ 48 + n / 10 = ap (λ t. get_or t 0 0) e in
    let ones : 48 + m % 10 ≡ 48 + n % 10 = ap (λ t. get_or t 1 0) e in
    omega (arith, tens, ones)

four_injective : (m n : ℕ) → four m ≡ four n → m ≡ n
four_injective m n e =
    let high : m / 100 ≡ n / 100 = two_injective (m / 100) (n / 100) (ap (take 2) e) in
    let low : m % 100 ≡ n % 100 = two_injective (m % 100) (n % 100) (ap (drop 2) e) in
    omega (arith, high, low)

-- a date has one text
pub date_text_injective : (a b : CalendarDate) → date_text a ≡ date_text b → a ≡ b
date_text_injective a b e =
    let year = four_injective a.year b.year (ap (take 4) e) in
    let month = two_injective a.month b.month (ap (λ t. take 2 (drop 5 t)) e) in
    let day = two_injective a.day b.day (ap (drop 8) e) in
    λ i. record { year = year i; month = month i; day = day i }

-- a day has one text
pub day_text_injective : (m n : ℕ) → m ≤ 84_005 → n ≤ 84_005 → day_text m ≡ day_text n → m ≡ n
day_text_injective m n small less e =
    let same : date_of m ≡ date_of n = date_text_injective (date_of m) (date_of n) e in
    let count = ap (λ date. day_count (pos date.year) date.month date.day) same in
    omega (arith, count, (days_have_dates m small).1, (days_have_dates n less).1)

-- a text that is no date is no day's
pub no_day : (text : List ℕ) → ((date : CalendarDate) → IsWritable date → date_text date ≡ text → ⊥)
    → (n : ℕ) → n ≤ 84_005 → day_text n ≡ text → ⊥
no_day text none n small spelled = none (date_of n) (date_is_writable (date_of n) (days_have_dates n small).0) spelled

-- the day of a date that is written
pub read_day_by : (text : List ℕ) (date : CalendarDate) (found : Option ℕ) → date_text date ≡ text
    → MatchOption found (¬ (IsDate date)) (λ n. (n ≤ 84_005) × (date_of n ≡ date)) → Reads (λ n. n ≤ 84_005) day_text text found
read_day_by text date (Some n) spelled is = (is.0, ap date_text is.1 ∙ spelled)
read_day_by text date None spelled fails =
    λ n small spelling. fails (subst IsDate (date_text_injective (date_of n) date (spelling ∙ sym spelled)) (days_have_dates n small).0)

-- the text of a day out of the range of operating days is no operating day's
pub no_other_day : (text : List ℕ) (n : ℕ) → n ≤ 84_005 → day_text n ≡ text → ((FIRST_DAY ≤ n) × (n ≤ LAST_DAY) → ⊥)
    → (v : ℕ) → (FIRST_DAY ≤ v) × (v ≤ LAST_DAY) → day_text v ≡ text → ⊥
no_other_day text n small spelled out v in_range spelling =
    let same = day_text_injective v n (omega (arith, in_range.1)) small (spelling ∙ sym spelled) in
    out (omega (arith, same, in_range.0), omega (arith, same, in_range.1))
