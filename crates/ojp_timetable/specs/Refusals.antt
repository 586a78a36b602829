-- Why a line, and why a text, is not taken.
use Rattle.std.specs.Prelude.{◌≡◌, ℕ, Some}
use Rattle.ojp_values.specs.Texts.{Text}
use Rattle.ojp_timetable.specs.Lines.{Above, no_lines}
use Rattle.ojp_timetable.specs.Said.{Said}
use Rattle.ojp_timetable.specs.TableText.{IsTextRefused, reason_of}
use Rattle.ojp_timetable.specs.declared.file.refusals.LineRefused.{LineRefused}
use Rattle.ojp_timetable.specs.declared.file.refusals.LineRefused.TheVariants.{Reason, NoMemory as LineNoMemory}
use Rattle.ojp_timetable.specs.declared.file.refusals.TableRefused.{TableRefused}
use Rattle.ojp_timetable.specs.declared.file.refusals.TableRefused.TheVariants.{At, NoMemory}

-- the reason is that of the line; want of memory may come at any line
abbrev pub IsLineRefusal : Said → LineRefused → Type 0
IsLineRefusal said (Reason reason) = reason_of said ≡ Some reason
IsLineRefusal said LineNoMemory = Unit {0}

-- a line that fails a check leaves the lines above as they were, and want of memory leaves none
abbrev pub left_after : Above → LineRefused → Above
left_after above (Reason reason) = above
left_after above LineNoMemory = no_lines

-- the line is the first that fails a check and the reason the first that it fails; want of memory may come at any text
abbrev pub IsRefusal : Text → TableRefused → Type 0
IsRefusal bytes (At line reason) = IsTextRefused bytes line reason
IsRefusal bytes NoMemory = Unit {0}

-- the refusal of the line of that number
abbrev pub refusal_of : LineRefused → ℕ → TableRefused
refusal_of (Reason reason) line = At line reason
refusal_of LineNoMemory line = NoMemory
