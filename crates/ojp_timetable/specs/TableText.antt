-- The text of a timetable, and where another is refused.
use Rattle.std.specs.Prelude.{◌≡◌, ℕ, ◌+◌, ◌-◌, ◌<◌, ◌≤◌, ◌==◌, List, [], ◌∷◌, length, take, get_or, nat_lt, cond, Option, Some, None, Ok, Err}
use Rattle.std.specs.List.{fold, onto_first}
use Rattle.ojp_values.specs.Dates.{operating_days}
use Rattle.ojp_values.specs.Texts.{Text}
use Rattle.ojp_zones.specs.Noons.{AreNoons}
use Rattle.ojp_timetable.specs.Tables.{Timetable}
use Rattle.ojp_timetable.specs.Contents.{Contents, timetable_of}
use Rattle.ojp_timetable.specs.Lines.{Above, no_lines, after_line}
use Rattle.ojp_timetable.specs.Said.{Said}
use Rattle.ojp_timetable.specs.Checks.{read_line, is_cut}
use Rattle.ojp_timetable.specs.declared.file.lines.TableReason.{TableReason}
use Rattle.ojp_timetable.specs.declared.file.lines.TableReason.TheVariants.{LineForm}

-- the lines: each ends with its line feed, which the last may lack
unfoldable pub lines_of : Text → List Text
lines_of [] = []
lines_of (b ∷ bytes) = cond (b == 10) ((b ∷ []) ∷ lines_of bytes) (onto_first b (lines_of bytes))

abbrev pub with_said : Above → Text → Said → Above
with_said above text (Ok line) = after_line above text line
with_said above text (Err reason) = above

-- the lines above a line, and the line
abbrev pub with_line : Above → Text → Above
with_line above text = with_said above text (read_line above text)

-- what these lines make
unfoldable pub above_of : List Text → Above
above_of lines = fold with_line no_lines lines

abbrev pub reason_of : Said → Option TableReason
reason_of (Ok line) = None
reason_of (Err reason) = Some reason

-- a file that may not end where it does is refused at its end
abbrev pub fault_at_end : Above → Option TableReason
fault_at_end above = cond (is_cut above) (Some LineForm) None

-- the reason of line k, counted from 0, where the end counts as a line after the last
unfoldable pub fault_at : List Text → ℕ → Option TableReason
fault_at lines k =
    cond (nat_lt k (length lines)) (reason_of (read_line (above_of (take k lines)) (get_or lines k []))) (fault_at_end (above_of lines))

-- the first n lines fail no check
pub record ArePassed (lines : List Text) (n : ℕ) : Type 0 where
  pub passed : (k : ℕ) → k < n → fault_at lines k ≡ None

-- the line, counted from 1, is the first that fails a check, and the reason is the first check that it fails
pub record IsTextRefused (bytes : Text) (line : ℕ) (reason : TableReason) : Type 0 where
  pub above : ArePassed (lines_of bytes) (line - 1)
  pub here : fault_at (lines_of bytes) (line - 1) ≡ Some reason
  pub counted : 1 ≤ line
  pub within : line ≤ length (lines_of bytes) + 1

-- what all lines of the text declare
abbrev pub contents_of : Text → Contents
contents_of bytes = (above_of (lines_of bytes)).contents

-- the bytes are a text of the timetable: no line fails a check, and the timetable is what they declare, with the
-- noons of the operating days in their zone
pub record IsText (bytes : Text) (table : Timetable) : Type 0 where
  pub passed : ArePassed (lines_of bytes) (length (lines_of bytes) + 1)
  pub makes : table ≡ timetable_of (contents_of bytes) table.noons
  pub noons : AreNoons (contents_of bytes).zone table.noons
  pub days : length table.noons ≡ operating_days
