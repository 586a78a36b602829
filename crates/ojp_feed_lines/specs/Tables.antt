-- How far a table has come in its file.
use Rattle.std.specs.Prelude.{◌≡◌, ℕ, false, List, [], ◌∷◌, length, Option, Some, None}
use Rattle.csv.specs.Reading.{AreRecords, Reached, Ready, default_config, expected_len, is_flexible, reader_config, reader_state, reader_trim, source_of, strip_bom}
use Rattle.csv.specs.declared.reader.Reader.{Reader}
use Rattle.csv.specs.declared.reader.Trim.TheVariants as trim
use Rattle.csv.specs.declared.parser.State.TheVariants as st
use Rattle.ojp_values.specs.Texts.{Text}
use Rattle.ojp_feed_lines.specs.Rows.{Record}

-- the number of fields that each further record must have
abbrev pub width_of : List Record → Option ℕ
width_of [] = None
width_of (head ∷ rows) = Some (length head)

-- a reader has read these records of the bytes, and reads on
pub record HasRead {R : Type 0} (remaining : R → Option Text) (reader : Reader R) (bytes : Text) (rows : List Record) : Type 0 where
  pub config : reader_config reader ≡ default_config
  pub trim : reader_trim reader ≡ trim.None
  pub plain : is_flexible reader ≡ false
  pub ready : Ready reader
  pub width : expected_len reader ≡ width_of rows
  pub left : Text
  pub told : source_of remaining reader ≡ Some left
  pub reached : Reached default_config st.StartRecord bytes rows (reader_state reader) left

-- these are all records of the bytes
abbrev pub HasEnded : Text → List Record → Type 0
HasEnded bytes rows = AreRecords default_config st.StartRecord bytes rows

-- what was taken stands for all records of the bytes under the head line, by the places of its columns
pub record HasTakenAll {C : Type 0} (places : C → Record → Type 0) (holds : C → List Record → Type 0) (bytes : Text) : Type 0 where
  pub columns : C
  pub head : Record
  pub rows : List Record
  pub all : HasEnded bytes (head ∷ rows)
  pub placed : places columns head
  pub held : holds columns rows

-- the same for the bytes of a file, which may begin with a byte order mark
abbrev pub HasTaken : {C : Type 0} → (C → Record → Type 0) → (C → List Record → Type 0) → Text → Type 0
HasTaken places holds bytes = HasTakenAll places holds (strip_bom bytes)
