-- The columns of the weekdays.
use Rattle.std.proofs.Common.{◌≡◌, ◌+◌, ◌<◌, ◌⊎◌, ℕ, zero, suc, List, Some, None, length, get_or, set, refl, inl, inr, arith}
use Rattle.std.specs.Prelude.{IsTrue}
use Rattle.std.proofs.lemmas.List.{get_or-set_other, get_or-set_same}
use Rattle.csv.specs.Records.{field_at}
use Rattle.ojp_values.specs.Texts.{Text}
use Rattle.ojp_feed_lines.specs.Causes.{IsBad, checks, needs}
use Rattle.ojp_feed_lines.specs.Fields.{flag_of}
use Rattle.ojp_feed_lines.specs.Columns.{column_name}
use Rattle.ojp_feed_lines.specs.RowPlaces.{WeekdayPlaces}
use Rattle.ojp_feed_lines.specs.Rows.{IsPlace, Record, or_nothing, under}
use Rattle.ojp_feed_lines.specs.declared.columns.Column.{Column}
use Rattle.ojp_feed_lines.specs.declared.columns.Column.TheVariants as columns
use Rattle.ojp_feed_lines.specs.declared.files.FeedFile.TheVariants.{Calendar}
use Rattle.ojp_feed_lines.specs.declared.services.TheConstants.{WEEKDAYS}

-- a weekday is a column of the calendar
pub weekday_needed : (day : ℕ) (column : Column) → day < 7 → IsTrue (needs Calendar (get_or WEEKDAYS day column))
weekday_needed zero column h = refl
weekday_needed (suc zero) column h = refl
weekday_needed (suc (suc zero)) column h = refl
weekday_needed (suc (suc (suc zero))) column h = refl
weekday_needed (suc (suc (suc (suc zero)))) column h = refl
weekday_needed (suc (suc (suc (suc (suc zero))))) column h = refl
weekday_needed (suc (suc (suc (suc (suc (suc zero)))))) column h = refl
weekday_needed (suc (suc (suc (suc (suc (suc (suc day))))))) column h = absurd (omega (arith, h))

-- it has a form
pub weekday_checked : (day : ℕ) (column : Column) → day < 7 → IsTrue (checks Calendar (get_or WEEKDAYS day column))
weekday_checked zero column h = refl
weekday_checked (suc zero) column h = refl
weekday_checked (suc (suc zero)) column h = refl
weekday_checked (suc (suc (suc zero))) column h = refl
weekday_checked (suc (suc (suc (suc zero)))) column h = refl
weekday_checked (suc (suc (suc (suc (suc zero))))) column h = refl
weekday_checked (suc (suc (suc (suc (suc (suc zero)))))) column h = refl
weekday_checked (suc (suc (suc (suc (suc (suc (suc day))))))) column h = absurd (omega (arith, h))

-- which is a flag
pub weekday_bad : (day : ℕ) (column : Column) (text : Text) → day < 7 → flag_of text ≡ None → IsBad (get_or WEEKDAYS day column) text
weekday_bad zero column text h bad = bad
weekday_bad (suc zero) column text h bad = bad
weekday_bad (suc (suc zero)) column text h bad = bad
weekday_bad (suc (suc (suc zero))) column text h bad = bad
weekday_bad (suc (suc (suc (suc zero)))) column text h bad = bad
weekday_bad (suc (suc (suc (suc (suc zero))))) column text h bad = bad
weekday_bad (suc (suc (suc (suc (suc (suc zero)))))) column text h bad = bad
weekday_bad (suc (suc (suc (suc (suc (suc (suc day))))))) column text h bad = absurd (omega (arith, h))

-- the columns stand in the list, whatever stands behind it
pub weekday_same : (day : ℕ) (one other : Column) → day < 7 → get_or WEEKDAYS day one ≡ get_or WEEKDAYS day other
weekday_same zero one other h = refl
weekday_same (suc zero) one other h = refl
weekday_same (suc (suc zero)) one other h = refl
weekday_same (suc (suc (suc zero))) one other h = refl
weekday_same (suc (suc (suc (suc zero)))) one other h = refl
weekday_same (suc (suc (suc (suc (suc zero))))) one other h = refl
weekday_same (suc (suc (suc (suc (suc (suc zero)))))) one other h = refl
weekday_same (suc (suc (suc (suc (suc (suc (suc day))))))) one other h = absurd (omega (arith, h))

-- one place more
pub places_more : (weekdays : List ℕ) (day : ℕ) (head : Record) (place : ℕ) (column : Column) → day < 7 → length weekdays ≡ 7 → WeekdayPlaces weekdays day head
    → IsPlace head (column_name (get_or WEEKDAYS day column)) (Some place) → WeekdayPlaces (set weekdays day place) (day + 1) head
places_more weekdays day head place column below long placed is = λ k within row. by k row (within_cases k within)
  where
    within_cases : (k : ℕ) → k < day + 1 → (k ≡ day) ⊎ (k < day)
    within_cases k within = grind (arith, within)

    by : (k : ℕ) (row : Record) → (k ≡ day) ⊎ (k < day)
        → under head (column_name (get_or WEEKDAYS k columns.Monday)) row ≡ or_nothing (field_at row (get_or (set weekdays day place) k 0))
    by k row (inl same) =
        rw (same, get_or-set_same weekdays day place 0 (omega (arith, below, long)), weekday_same day columns.Monday column below) (is row)
    by k row (inr less) = rw (get_or-set_other weekdays day k place 0 (λ same. omega (arith, less, same))) (placed k less row)
