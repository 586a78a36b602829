-- The records of a file, and the fields under its head line.
use Rattle.std.specs.Prelude.{◌≡◌, ℕ, List, [], ◌∷◌, if◌then◌else◌, Option, Some, None, IfSome, IsSomeAnd}
use Rattle.std.specs.Str.{bytes_eq}
use Rattle.csv.specs.Reading.{AreRecords, default_config, strip_bom}
use Rattle.csv.specs.Records.{field_at}
use Rattle.csv.specs.declared.parser.State.TheVariants as st
use Rattle.ojp_values.specs.Texts.{Text}
use Rattle.ojp_feed_lines.specs.Folders.{Files}
use Rattle.ojp_feed_lines.specs.declared.files.FeedFile.{FeedFile}

-- a record: the list of its fields
abbrev pub Record : Type 0
Record = List Text

-- the field of a record that stands under the first of a name in the head line; nothing where there is none
unfoldable pub under : Record → Text → Record → Text
under [] name row = []
under (head ∷ heads) name [] = []
under (head ∷ heads) name (field ∷ fields) = if bytes_eq head name then field else under heads name fields

-- these are all records of the bytes, the head line first
abbrev pub AreRows : Text → Record → List Record → Type 0
AreRows bytes head rows = AreRecords default_config st.StartRecord (strip_bom bytes) (head ∷ rows)

-- a field, and nothing where there is none
abbrev pub or_nothing : Option Text → Text
or_nothing None = []
or_nothing (Some field) = field

-- the field at a place, where there is a place
abbrev pub at_place : Record → Option ℕ → Text
at_place row None = []
at_place row (Some place) = or_nothing (field_at row place)

-- what stands under the name in the head line stands at this place
abbrev pub IsPlace : Record → Text → Option ℕ → Type 0
IsPlace head name place = (row : Record) → under head name row ≡ at_place row place

-- this holds of the told bytes of a file
abbrev pub OfFile : Option Files → FeedFile → (Text → Type 0) → Type 0
OfFile contents file P = IfSome contents (λ files. IsSomeAnd (files file) P)
