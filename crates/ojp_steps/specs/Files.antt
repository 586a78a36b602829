-- A file of a store that is lent and read as a timetable.
use Rattle.std.specs.Prelude.{◌≡◌, ℕ, ◌≤◌, length, Option, Some}
use Rattle.ojp_values.specs.Texts.{Text}
use Rattle.ojp_outside.specs.Causes.{Rests}
use Rattle.ojp_outside.specs.declared.store.TheConstants.{FILE_LIMIT}
use Rattle.ojp_timetable.specs.Tables.{Timetable}
use Rattle.ojp_timetable.specs.TableText.{IsText}
use Rattle.ojp_timetable.specs.declared.file.lines.TableReason.{TableReason}
use Rattle.ojp_outside.specs.Seen.{StoreView}
use Rattle.ojp_steps.specs.Lent.{Lent, before, after}
use Rattle.ojp_steps.specs.declared.failures.Failure.{Failure}
use Rattle.ojp_steps.specs.declared.failures.Failure.TheVariants as failures
use Rattle.ojp_region.specs.Files as region
use Rattle.ojp_region.specs.declared.files.FileRefused.{FileRefused}
use Rattle.ojp_region.specs.declared.files.FileRefused.TheVariants.{Failed, TooLong, At, NoMemory}

-- nothing that is seen of the store changed
abbrev pub StandsAsBefore : {F : Type 0} → Lent F StoreView → Type 0
StandsAsBefore store = after store ≡ before store

-- the file, where the store tells its contents, is the text of the timetable, and no read failed
abbrev pub IsFileOf : {F : Type 0} → Text → Lent F StoreView → Timetable → Type 0
IsFileOf file store table = region.IsFileOf file (before store) (after store) table

-- the file was read and accepted
abbrev pub IsAccepted : {F : Type 0} → Text → Lent F StoreView → Type 0
IsAccepted file store = (table : Timetable) × IsFileOf file store table

-- a read of the file failed, and its name is that of the last read that did, where the store tells it
abbrev pub FailsToOpen : {F : Type 0} → Text → Lent F StoreView → Type 0
FailsToOpen file store = region.FailsToRead file (before store) (after store)

-- the file is there and has more bytes than a file may have, where the store tells its files
abbrev pub IsTooLong : {F : Type 0} → Text → Lent F StoreView → Type 0
IsTooLong file store = region.IsTooLong file (before store) (after store)

-- the file, where the store tells its contents, is refused at the line for the reason
abbrev pub IsRefusedFile : {F : Type 0} → Text → Lent F StoreView → ℕ → TableReason → Type 0
IsRefusedFile file store line reason = region.IsRefusedFile file (before store) (after store) line reason

-- the failure of a command that could not take the file of this name
abbrev pub IsOfFile : Text → FileRefused → Failure → Type 0
IsOfFile name Failed (failures.Unread file) = file.now ≡ name
IsOfFile name TooLong (failures.TooLong file) = file.now ≡ name
IsOfFile name (At line reason) (failures.Line file at cause) = (file.now ≡ name) × (at ≡ line) × (cause ≡ reason)
IsOfFile name NoMemory failures.Memory = Unit {0}
IsOfFile name refused failure = ⊥

-- the store tells that these are the bytes of the file, and no read of a file failed
pub record IsReadable {F : Type 0} (file : Text) (store : Lent F StoreView) (bytes : Text) : Type 0 where
  pub files : Text → Option Text
  pub told : (before store).contents ≡ Some files
  pub held : files file ≡ Some bytes
  pub rests : Rests (before store).faults (after store).faults

-- the file can be read, and is the text of the timetable
pub record IsGood {F : Type 0} (file : Text) (store : Lent F StoreView) (table : Timetable) : Type 0 where
  pub bytes : Text
  pub readable : IsReadable file store bytes
  pub within : length bytes ≤ FILE_LIMIT
  pub is_text : IsText bytes table
