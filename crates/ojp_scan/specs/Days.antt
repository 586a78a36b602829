-- The operating days around a moment.
use Rattle.std.specs.Prelude.{◌≡◌, ℕ, ◌+◌, ◌*◌, ◌/◌, ◌%◌, ◌<◌, ◌≤◌, ◌^◌, ◌↔◌, true, false, List, Bool, length, slice_index, slice_index_or}
use Rattle.ojp_values.specs.declared.moments.TheConstants.{FIRST_DAY, LAST_DAY}
use Rattle.ojp_timetable.specs.Tables.{Timetable}
use Rattle.ojp_timetable.specs.Runs.{RunsOn, moment}
use Rattle.ojp_sweep.specs.declared.connections.Days.{Days}

-- four days in a row from the first on have every run that one boards from the start on and leaves within a day:
-- a call is at most 187,140 seconds after the midnight of its operating day in UTC, and at most 57,540 before it
abbrev pub CoverWindow : ℕ → ℕ → Type 0
CoverWindow first start = (day : ℕ) → start ≤ 86400 * day + 187140 → 86400 * day ≤ start + 86400 + 57540 → (first ≤ day) × (day < first + 4)

-- the base of the day is the moment of its offset 0, if it is an operating day
pub record IsBase (table : Timetable) (day base : ℕ) : Type 0 where
  pub low : base ≤ 2 ^ 40
  pub is : FIRST_DAY ≤ day → day ≤ LAST_DAY → base ≡ moment table day 0

-- the first of the four bases are those of the days
pub record AreBases (bases : List ℕ) (table : Timetable) (first count : ℕ) : Type 0 where
  pub length_is : length bases ≡ 4
  pub is : (day : ℕ) → day < count → IsBase table (first + day) (slice_index bases day)

-- the first marks, four for each service, tell whether it runs on the days
pub record AreMarks (running : List Bool) (table : Timetable) (first count : ℕ) : Type 0 where
  pub length_is : length running ≡ 4 * length table.services
  pub is : (index : ℕ) → index < count → (slice_index_or running index false ≡ true) ↔ RunsOn table (index / 4) (first + index % 4)

-- there is room for four days and for the marks of each service
pub record HasRoomFor (days : Days) (table : Timetable) : Type 0 where
  pub bases : length days.bases.items ≡ 4
  pub running : length days.running.items ≡ 4 * length table.services

-- the four days are those from the first on
pub record AreDaysFrom (days : Days) (table : Timetable) (first : ℕ) : Type 0 where
  pub bases : AreBases days.bases.items table first 4
  pub running : AreMarks days.running.items table first (4 * length table.services)
