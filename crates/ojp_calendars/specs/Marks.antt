-- What is left of a set of days while its boxes are found.
use Rattle.std.specs.Prelude.{◌≡◌, ℕ, ◌+◌, ◌<◌, ◌≤◌, ◌⊎◌, Bool, true, false, cond, List, All, length, slice_index_or}
use Rattle.ojp_calendars.specs.Days.{AreExact, IsTight, boxes_over, has_day, weekday}
use Rattle.ojp_calendars.specs.declared.day_box.DayBox.{DayBox}

-- the day of that index is marked
abbrev pub marked : List Bool → ℕ → Bool
marked marks i = slice_index_or marks i false

-- the day so many days after the first is on one of the weekdays
abbrev pub on : ℕ → List Bool → ℕ → Bool
on first weekdays i = slice_index_or weekdays (weekday (first + i)) false

-- from the index on and before the end, each day on one of the weekdays is left
pub record Reaches (first : ℕ) (left weekdays : List Bool) (index end : ℕ) : Type 0 where
  pub from : index < end
  pub to : end ≤ length left
  pub each : (i : ℕ) → index ≤ i → i < end → on first weekdays i ≡ true → marked left i ≡ true

-- the days on the weekdays, from the index on and before the end, are left no more; the last of them is told
pub record Clears (first : ℕ) (old new weekdays : List Bool) (index end last : ℕ) : Type 0 where
  pub count : length new ≡ length old
  pub from : index ≤ last
  pub to : last < end
  pub last_on : on first weekdays last ≡ true
  pub behind : (i : ℕ) → last < i → i < end → on first weekdays i ≡ false
  pub cleared : (i : ℕ) → index ≤ i → i < end → on first weekdays i ≡ true → marked new i ≡ false
  pub others : (i : ℕ) → (i < index) ⊎ ((end ≤ i) ⊎ (on first weekdays i ≡ false)) → marked new i ≡ marked old i

-- whatever was cleared before, one day more is
abbrev pub KeepsClear : ℕ → List Bool → List Bool → List Bool → ℕ → ℕ → ℕ → Type 0
KeepsClear first before after weekdays next last new_last =
    (old : List Bool) (index : ℕ) → Clears first old before weekdays index next last
    → Clears first old after weekdays index (next + 1) new_last

-- before the index no day is left; each day of the set is left or under one of the boxes, and not both
pub record Swept (first : ℕ) (marks left : List Bool) (boxes : List DayBox) (index : ℕ) : Type 0 where
  pub count : length left ≡ length marks
  pub exact : (day : ℕ) → boxes_over day boxes + cond (has_day first left day) 1 0 ≡ cond (has_day first marks day) 1 0
  pub done : (i : ℕ) → i < index → marked left i ≡ false
  pub tight : All IsTight boxes

-- whatever the set was, one day more is swept
abbrev pub KeepsSwept : ℕ → List Bool → List Bool → List DayBox → List DayBox → ℕ → Type 0
KeepsSwept first old_left new_left old_boxes new_boxes index =
    (marks : List Bool) → Swept first marks old_left old_boxes index → Swept first marks new_left new_boxes (index + 1)

-- the boxes are those of the set
abbrev pub AreBoxes : ℕ → List Bool → List DayBox → Type 0
AreBoxes first marks boxes = AreExact first marks boxes × All IsTight boxes
