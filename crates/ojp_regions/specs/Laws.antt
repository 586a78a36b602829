-- Laws of the text of a file of regions.
use Rattle.std.specs.Prelude.{◌≡◌, ℕ, List}
use Rattle.ojp_values.specs.Texts.{Text}
use Rattle.ojp_timetable.specs.declared.file.lines.TableReason.{TableReason}
use Rattle.ojp_regions.specs.RegionsText.{IsListRefused, IsText}
use Rattle.ojp_regions.specs.declared.line.RegionLine.{RegionLine}

-- a file is refused at one line and for one reason
abbrev pub RefusalIsOne : Type 0
RefusalIsOne =
    (bytes : Text) (line other : ℕ) (reason why : TableReason) → IsListRefused bytes line reason → IsListRefused bytes other why
    → (line ≡ other) × (reason ≡ why)

-- the text of regions is not refused
abbrev pub TextIsNotRefused : Type 0
TextIsNotRefused =
    (bytes : Text) (regions : List RegionLine) (line : ℕ) (reason : TableReason) → IsText bytes regions → IsListRefused bytes line reason → ⊥

-- a text is that of one list of regions
abbrev pub TextIsOne : Type 0
TextIsOne = (bytes : Text) (regions others : List RegionLine) → IsText bytes regions → IsText bytes others → regions ≡ others
