-- The files of `plan`: what they hold, what stops their reading, and why their regions make no book.
use Rattle.std.specs.Prelude.{◌≡◌, ◌≤◌, ◌++◌, ◌∷◌, false, List, length, map, Result, Ok, Err}
use Rattle.ojp_values.specs.Lists.{Pairwise}
use Rattle.ojp_values.specs.Texts.{Text}
use Rattle.ojp_outside.specs.Files.{IsContents}
use Rattle.ojp_outside.specs.Seen.{StoreView}
use Rattle.ojp_timetable.specs.Tables.{Timetable}
use Rattle.ojp_timetable.specs.TableText.{IsText}
use Rattle.ojp_exchange.specs.Book.{Book, points_of}
use Rattle.ojp_exchange.specs.Joins.{IsJoined, JoinFails}
use Rattle.ojp_exchange.specs.declared.refusals.BookRefused.{BookRefused}
use Rattle.ojp_exchange.specs.declared.refusals.BookRefused.TheVariants as refusals
use Rattle.ojp_outside.specs.declared.store.TheConstants.{FILE_LIMIT}
use Rattle.ojp_region.specs.Files.{FailsToRead, IsTooLong, IsRefusedFile}
use Rattle.ojp_links_mem.specs.Files.{FilesView}
use Rattle.ojp_links_mem.specs.declared.files.OpenRefused.{OpenRefused}
use Rattle.ojp_links_mem.specs.declared.files.OpenRefused.TheVariants as opens
use Rattle.ojp_steps.specs.Lent.{Lent, before, after}
use Rattle.ojp_steps.specs.declared.failures.Failure.{Failure}
use Rattle.ojp_steps.specs.declared.failures.Failure.TheVariants.{Unread, TooLong, Line, Twice, TooMany, Disagree, Memory}

-- the file, where the store tells its contents, is the text of the timetable
pub record IsTextOf (store : StoreView) (file : Text) (table : Timetable) : Type 0 where
  pub bytes : Text
  pub held : IsContents store.contents file bytes
  pub within : length bytes ≤ FILE_LIMIT
  pub is_text : IsText bytes table

-- each file is the text of its timetable, in the order of the files
abbrev pub AreTextsOf : StoreView → List Text → List Timetable → Type 0
AreTextsOf store names tables = Pairwise (IsTextOf store) names tables

-- a file stops the reading, and those before it were read and accepted
pub record StopsAt (store : StoreView) (Stops : Text → Type 0) (names : List Text) : Type 0 where
  pub above : List Text
  pub file : Text
  pub behind : List Text
  pub order : names ≡ above ++ file ∷ behind
  pub tables : List Timetable
  pub accepted : AreTextsOf store above tables
  pub stops : Stops file

-- the files are texts of timetables, whose exchange points make a book: the codes of their regions differ, the regions agree, and they have
-- no more exchange points than a book may have
pub record MakesBook (store : StoreView) (names : List Text) (tables : List Timetable) : Type 0 where
  pub texts : AreTextsOf store names tables
  pub book : Book
  pub joined : IsJoined (map points_of tables) book

-- the files are texts of timetables, whose exchange points make no book, for this reason
pub record MakesNoBook (store : StoreView) (names : List Text) (reason : BookRefused) : Type 0 where
  pub tables : List Timetable
  pub texts : AreTextsOf store names tables
  pub refused : JoinFails (map points_of tables) reason

-- why the regions of the files can't be asked
abbrev pub FilesFail : {F : Type 0} → List Text → Lent F FilesView → Failure → Type 0
FilesFail names files (Unread name) = StopsAt (before files).store (λ file. (name.now ≡ file) × FailsToRead file (before files).store (after files).store) names
FilesFail names files (TooLong name) = StopsAt (before files).store (λ file. (name.now ≡ file) × IsTooLong file (before files).store (after files).store) names
FilesFail names files (Line name line reason) =
    StopsAt (before files).store (λ file. (name.now ≡ file) × IsRefusedFile file (before files).store (after files).store line reason) names
FilesFail names files (Twice code) = MakesNoBook (before files).store names (refusals.TwiceRegion code)
FilesFail names files TooMany = MakesNoBook (before files).store names refusals.TooMany
FilesFail names files (Disagree point left right) = MakesNoBook (before files).store names (refusals.Disagree point left right)
FilesFail names files Memory = Unit {0}
FilesFail names files failure = ⊥

-- why there is no book where the links were not opened
abbrev pub reason_of_opening : OpenRefused → BookRefused
reason_of_opening (opens.TwiceRegion code) = refusals.TwiceRegion code
reason_of_opening opens.NoMemory = refusals.NoMemory

-- how the reading of the files ends: all were accepted, and the links are not open yet; or why not
abbrev pub ReadsFiles : {F : Type 0} → List Text → Lent F FilesView → Result (Unit {0}) Failure → Type 0
ReadsFiles names files (Ok nothing) = AreTextsOf (before files).store names (after files).tables × ((after files).is_open ≡ false)
ReadsFiles names files (Err failure) = FilesFail names files failure
