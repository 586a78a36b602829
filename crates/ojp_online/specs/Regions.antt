-- What `region` does with a timetable file and the connections at its port.
use Rattle.std.specs.Prelude.{◌≡◌, ℕ, ◌<◌, ◌≤◌, ◌⊎◌, length, Option}
use Rattle.ojp_values.specs.Texts.{Text}
use Rattle.ojp_outside.specs.Causes.{Rests}
use Rattle.ojp_outside.specs.declared.store.TheConstants.{FILE_LIMIT}
use Rattle.ojp_outside.specs.Seen.{SinkView, StoreView}
use Rattle.ojp_timetable.specs.Tables.{Timetable}
use Rattle.ojp_timetable.specs.TableText.{IsTextRefused as IsTableRefused}
use Rattle.ojp_timetable.specs.declared.file.lines.TableReason.{TableReason}
use Rattle.ojp_grammar.specs.Answering.{AnswersBody}
use Rattle.ojp_timetable.specs.Answers.{RegionAnswers}
use Rattle.ojp_steps.specs.Lent.{Lent, before, after, IsUnused, Gains, GainsInPart}
use Rattle.ojp_steps.specs.Files.{StandsAsBefore, IsFileOf, IsAccepted, FailsToOpen, IsTooLong, IsRefusedFile, IsReadable, IsGood}
use Rattle.ojp_steps.specs.Serving.{DoorsSeen, DoorsRest, ready, Listens, FailsToListen, ServesAll, ServesInPart}
use Rattle.ojp_steps.specs.declared.failures.Failure.{Failure}
use Rattle.ojp_steps.specs.declared.failures.Failure.TheVariants.{Unread, TooLong, Output, Memory, Line, Doors}

-- `ready` was written as a line, and then all connections were served by the timetable of the file
pub record RegionServed {F O D : Type 0} (file : Text) (port : ℕ) (count : Option ℕ) (store : Lent F StoreView) (output : Lent O SinkView) (doors : Lent D DoorsSeen) : Type 0 where
  pub table : Timetable
  pub of_file : IsFileOf file store table
  pub is_ready : Gains output ready
  pub serves : ServesAll (AnswersBody (RegionAnswers table)) port count doors

-- `ready` was written as a line, and then connections were served by the timetable of the file until the next could not be given
pub record RegionServedInPart {F O D : Type 0} (file : Text) (port : ℕ) (count : Option ℕ) (store : Lent F StoreView) (output : Lent O SinkView) (doors : Lent D DoorsSeen) : Type 0 where
  pub table : Timetable
  pub of_file : IsFileOf file store table
  pub is_ready : Gains output ready
  pub serves : ServesInPart (AnswersBody (RegionAnswers table)) port count doors

-- why `region` fails, and what it leaves alone then; want of memory comes before the doors are asked to listen
abbrev pub RegionFails : {F O D : Type 0} → Text → ℕ → Option ℕ → Lent F StoreView → Lent O SinkView → Lent D DoorsSeen → Failure → Type 0
RegionFails file port count store output doors (Unread name) = (name.now ≡ file) × FailsToOpen file store × IsUnused output × IsUnused doors
RegionFails file port count store output doors (TooLong name) = (name.now ≡ file) × IsTooLong file store × IsUnused output × IsUnused doors
RegionFails file port count store output doors Output = IsAccepted file store × GainsInPart output ready × Listens port count doors
RegionFails file port count store output doors Memory = StandsAsBefore store × IsUnused output × IsUnused doors
RegionFails file port count store output doors (Line name line reason) =
    (name.now ≡ file) × IsRefusedFile file store line reason × IsUnused output × IsUnused doors
RegionFails file port count store output doors Doors =
    (IsAccepted file store × FailsToListen port count doors × IsUnused output) ⊎ RegionServedInPart file port count store output doors
RegionFails file port count store output doors failure = ⊥

-- the status that is due where the file is told and no count rose
pub data RegionIsDue {F O D : Type 0} (file : Text) (store : Lent F StoreView) (output : Lent O SinkView) (doors : Lent D DoorsSeen) : ℕ → Type 0 where
  -- the file has more bytes than a file may have
  too_long : (bytes : Text) → IsReadable file store bytes → FILE_LIMIT < length bytes → RegionIsDue file store output doors 3
  -- the file is no timetable
  no_table : (bytes : Text) → IsReadable file store bytes → length bytes ≤ FILE_LIMIT
      → (line : ℕ) (reason : TableReason) → IsTableRefused bytes line reason → RegionIsDue file store output doors 6
  -- the file is in order, and neither a write nor a call of the doors failed
  all_served : (table : Timetable) → IsGood file store table → Rests (before output).faults (after output).faults → DoorsRest doors
      → RegionIsDue file store output doors 0
