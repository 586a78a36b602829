-- Laws of the text of a timetable.
use Rattle.std.specs.Prelude.{◌≡◌, ◌≤◌, ℕ}
use Rattle.ojp_values.specs.Dates.{day_text}
use Rattle.ojp_values.specs.Numbers.{Reads}
use Rattle.ojp_values.specs.Texts.{Text}
use Rattle.ojp_values.specs.declared.moments.TheConstants.{FIRST_DAY, LAST_DAY}
use Rattle.ojp_timetable.specs.Tables.{Timetable}
use Rattle.ojp_timetable.specs.Points.{AreWellPoints}
use Rattle.ojp_timetable.specs.Said.{day_of}
use Rattle.ojp_timetable.specs.TableText.{IsTextRefused, IsText}
use Rattle.ojp_timetable.specs.declared.file.lines.TableReason.{TableReason}

-- a file is refused at one line and for one reason
abbrev pub RefusalIsOne : Type 0
RefusalIsOne =
    (bytes : Text) (line other : ℕ) (reason why : TableReason) → IsTextRefused bytes line reason → IsTextRefused bytes other why
    → (line ≡ other) × (reason ≡ why)

-- the text of a timetable is not refused
abbrev pub TextIsNotRefused : Type 0
TextIsNotRefused =
    (bytes : Text) (table : Timetable) (line : ℕ) (reason : TableReason) → IsText bytes table → IsTextRefused bytes line reason → ⊥

-- a text is that of one timetable
abbrev pub TableIsOne : Type 0
TableIsOne = (bytes : Text) (table other : Timetable) → IsText bytes table → IsText bytes other → table ≡ other

-- the exchange points that a text declares are those of its region, and rise by reference, each with rising neighbours,
-- no more than a timetable may have, and with change times in range
abbrev pub PointsAreWell : Type 0
PointsAreWell = (bytes : Text) (table : Timetable) → IsText bytes table → AreWellPoints table.region table.points

-- the days of services are spelled as those of documents are
abbrev pub DaysAreSpelled : Type 0
DaysAreSpelled = (text : Text) → Reads (λ n. (FIRST_DAY ≤ n) × (n ≤ LAST_DAY)) day_text text (day_of text)
