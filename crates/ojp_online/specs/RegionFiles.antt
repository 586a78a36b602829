-- A file of a store that is read as a file of regions.
use Rattle.std.specs.Prelude.{ℕ, ◌≤◌, length, List, Result, Ok, Err}
use Rattle.ojp_values.specs.Texts.{Text}
use Rattle.ojp_outside.specs.Files.{IsContents}
use Rattle.ojp_outside.specs.declared.store.TheConstants.{FILE_LIMIT}
use Rattle.ojp_outside.specs.Seen.{StoreView}
use Rattle.ojp_timetable.specs.declared.file.lines.TableReason.{TableReason}
use Rattle.ojp_regions.specs.RegionsText.{IsText, IsListRefused}
use Rattle.ojp_regions.specs.declared.line.RegionLine.{RegionLine}
use Rattle.ojp_steps.specs.Lent.{Lent, before}
use Rattle.ojp_steps.specs.Files.{StandsAsBefore, FailsToOpen, IsTooLong, IsReadable}
use Rattle.ojp_region.specs.declared.files.FileRefused.{FileRefused}
use Rattle.ojp_region.specs.declared.files.FileRefused.TheVariants.{Failed, TooLong, At, NoMemory}

-- the file, where the store tells its contents, is the text of these regions, and no read failed
pub record IsFileOf {F : Type 0} (file : Text) (store : Lent F StoreView) (regions : List RegionLine) : Type 0 where
  pub bytes : Text
  pub held : IsContents (before store).contents file bytes
  pub within : length bytes ≤ FILE_LIMIT
  pub is_text : IsText bytes regions
  pub same : StandsAsBefore store

-- the file, where the store tells its contents, is refused at the line for the reason
pub record IsRefusedFile {F : Type 0} (file : Text) (store : Lent F StoreView) (line : ℕ) (reason : TableReason) : Type 0 where
  pub bytes : Text
  pub held : IsContents (before store).contents file bytes
  pub within : length bytes ≤ FILE_LIMIT
  pub refused : IsListRefused bytes line reason
  pub same : StandsAsBefore store

-- how the reading of a file of regions ends
abbrev pub ReadsRegions : {F : Type 0} → Text → Lent F StoreView → Result (List RegionLine) FileRefused → Type 0
ReadsRegions file store (Ok regions) = IsFileOf file store regions
ReadsRegions file store (Err Failed) = FailsToOpen file store
ReadsRegions file store (Err TooLong) = IsTooLong file store
ReadsRegions file store (Err (At line reason)) = IsRefusedFile file store line reason
ReadsRegions file store (Err NoMemory) = StandsAsBefore store

-- the file can be read, and is the text of these regions
pub record IsGood {F : Type 0} (file : Text) (store : Lent F StoreView) (regions : List RegionLine) : Type 0 where
  pub bytes : Text
  pub readable : IsReadable file store bytes
  pub within : length bytes ≤ FILE_LIMIT
  pub is_text : IsText bytes regions
