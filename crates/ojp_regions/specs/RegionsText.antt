-- The text of a file of regions, and where another is refused.
use Rattle.std.specs.Prelude.{◌≡◌, ◌≢◌, ◌⊎◌, ℕ, ◌+◌, ◌≤◌, List, [], ◌∷◌, ◌++◌, length}
use Rattle.ojp_values.specs.Lists.{Among, Pairwise}
use Rattle.ojp_values.specs.Texts.{Text}
use Rattle.ojp_timetable.specs.TableText.{lines_of}
use Rattle.ojp_timetable.specs.declared.file.lines.TableReason.{TableReason}
use Rattle.ojp_timetable.specs.declared.file.lines.TableReason.TheVariants.{LineForm}
use Rattle.ojp_regions.specs.declared.line.RegionLineRefused.{RegionLineRefused}
use Rattle.ojp_regions.specs.declared.line.RegionLineRefused.TheVariants.{Reason, NoMemory as LineNoMemory}
use Rattle.ojp_regions.specs.Lines.{Says, IsFault, codes_in}
use Rattle.ojp_regions.specs.declared.line.RegionLine.{RegionLine}
use Rattle.ojp_regions.specs.declared.reading.RegionsRefused.{RegionsRefused}
use Rattle.ojp_regions.specs.declared.reading.RegionsRefused.TheVariants.{At, NoMemory}

-- no text stands twice
abbrev pub AreApart : List Text → Type 0
AreApart [] = Unit {0}
AreApart (x ∷ xs) = (Among x xs → ⊥) × AreApart xs

-- the lines say these regions, one each and in their order: no code stands twice, and there are 32 at most
pub record AreSaid (lines : List Text) (regions : List RegionLine) : Type 0 where
  pub each : Pairwise Says lines regions
  pub apart : AreApart (codes_in regions)
  pub within : length regions ≤ 32

-- the bytes are the text of the regions: its lines say them, and there is one at least
pub record IsText (bytes : Text) (regions : List RegionLine) : Type 0 where
  pub said : AreSaid (lines_of bytes) regions
  pub some : regions ≢ []

-- the line, counted from 1, is the first that is refused, and the reason is the first that holds of it: the lines above say regions
pub record IsRefusedLine (bytes : Text) (line : ℕ) (reason : TableReason) : Type 0 where
  pub above : List Text
  pub text : Text
  pub below : List Text
  pub lines : lines_of bytes ≡ above ++ text ∷ below
  pub number : line ≡ length above + 1
  pub regions : List RegionLine
  pub said : AreSaid above regions
  pub fault : IsFault regions text reason

-- the text is refused at the line for the reason; one without a line is refused at line 1 for its form
abbrev pub IsListRefused : Text → ℕ → TableReason → Type 0
IsListRefused bytes line reason = IsRefusedLine bytes line reason ⊎ ((lines_of bytes ≡ []) × (line ≡ 1) × (reason ≡ LineForm))

-- the line and the reason are those of the text; want of memory may come at any text
abbrev pub IsRefusal : Text → RegionsRefused → Type 0
IsRefusal bytes (At line reason) = IsListRefused bytes line reason
IsRefusal bytes NoMemory = Unit {0}

-- the refusal of the line of that number
abbrev pub refusal_of : RegionLineRefused → ℕ → RegionsRefused
refusal_of (Reason reason) line = At line reason
refusal_of LineNoMemory line = NoMemory
