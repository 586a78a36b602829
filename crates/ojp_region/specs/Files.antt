-- A file of a store that is read as a timetable.
use Rattle.std.specs.Prelude.{◌≡◌, ◌<◌, ◌≤◌, ℕ, length, Some, IfSome, IsSomeAnd, Result, Ok, Err}
use Rattle.ojp_outside.specs.Causes.{Rose}
use Rattle.ojp_outside.specs.Files.{IsContents}
use Rattle.ojp_outside.specs.Seen.{StoreView}
use Rattle.ojp_outside.specs.declared.store.TheConstants.{FILE_LIMIT}
use Rattle.ojp_values.specs.Texts.{Text}
use Rattle.ojp_timetable.specs.Tables.{Timetable}
use Rattle.ojp_timetable.specs.TableText.{IsText, IsTextRefused}
use Rattle.ojp_timetable.specs.declared.file.lines.TableReason.{TableReason}
use Rattle.ojp_region.specs.declared.files.FileRefused.{FileRefused}
use Rattle.ojp_region.specs.declared.files.FileRefused.TheVariants.{Failed, TooLong, At, NoMemory}

-- the file, where the store tells its contents, is the text of the timetable, and no read failed
pub record IsFileOf (file : Text) (old new : StoreView) (table : Timetable) : Type 0 where
  pub bytes : Text
  pub held : IsContents old.contents file bytes
  pub within : length bytes ≤ FILE_LIMIT
  pub is_text : IsText bytes table
  pub same : new ≡ old

-- a read of the file failed, and its name is that of the last read that did, where the store tells it
pub record FailsToRead (file : Text) (old new : StoreView) : Type 0 where
  pub rose : Rose old.faults new.faults
  pub named : IfSome new.failed_name (λ name. name ≡ Some file)
  pub same : new.contents ≡ old.contents

-- the file is there and has more bytes than a file may have, where the store tells its files
pub record IsTooLong (file : Text) (old new : StoreView) : Type 0 where
  pub above : IfSome old.contents (λ files. IsSomeAnd (files file) (λ bytes. FILE_LIMIT < length bytes))
  pub same : new ≡ old

-- the file, where the store tells its contents, is refused at the line for the reason
pub record IsRefusedFile (file : Text) (old new : StoreView) (line : ℕ) (reason : TableReason) : Type 0 where
  pub bytes : Text
  pub held : IsContents old.contents file bytes
  pub within : length bytes ≤ FILE_LIMIT
  pub refused : IsTextRefused bytes line reason
  pub same : new ≡ old

-- how the reading of a timetable's file ends
abbrev pub ReadsFile : Text → StoreView → StoreView → Result Timetable FileRefused → Type 0
ReadsFile file old new (Ok table) = IsFileOf file old new table
ReadsFile file old new (Err Failed) = FailsToRead file old new
ReadsFile file old new (Err TooLong) = IsTooLong file old new
ReadsFile file old new (Err (At line reason)) = IsRefusedFile file old new line reason
ReadsFile file old new (Err NoMemory) = new ≡ old
