-- The fields of documents: which text spells which value.
use Rattle.std.specs.Prelude.{◌≡◌, ℕ, ◌<◌, ◌≤◌, ◌^◌, List, IsTrue, codes}
use Rattle.std.specs.Fmt.{decimal}
use Rattle.ojp_values.specs.declared.kinds.Kind.{Kind}
use Rattle.ojp_values.specs.declared.kinds.Kind.TheVariants as kinds
use Rattle.ojp_values.specs.declared.kinds.EventKind.{EventKind as Events}
use Rattle.ojp_values.specs.declared.kinds.EventKind.TheVariants.{Departure, Arrival}
use Rattle.ojp_values.specs.declared.moments.TheConstants.{FIRST_DAY, LAST_DAY, LAST_SECOND}
use Rattle.ojp_values.specs.Texts.{is_stop_ref, is_code, is_label, is_name, escaped}
use Rattle.ojp_values.specs.Dates.{day_text, moment_text}
use Rattle.ojp_values.specs.Numbers.{duration_text}
use Rattle.ojp_grammar.specs.declared.fields.FieldValue.{FieldValue}
use Rattle.ojp_grammar.specs.declared.fields.FieldValue.TheVariants.{StopRef, Code, Label, Name, Moment, Day, Seconds, Change, Number, Count, EventKind}

abbrev pub kind_of : FieldValue → Kind
kind_of (StopRef s) = kinds.StopRef
kind_of (Code s) = kinds.Code
kind_of (Label s) = kinds.Label
kind_of (Name s) = kinds.Name
kind_of (Moment n) = kinds.Moment
kind_of (Day n) = kinds.Day
kind_of (Seconds n) = kinds.Seconds
kind_of (Change n) = kinds.Change
kind_of (Number n) = kinds.Number
kind_of (Count n) = kinds.Count
kind_of (EventKind e) = kinds.EventKind

abbrev pub event_text : Events → List ℕ
event_text Departure = codes "departure"
event_text Arrival = codes "arrival"

-- the text that spells a value
unfoldable pub field_text : FieldValue → List ℕ
field_text (StopRef s) = s
field_text (Code s) = s
field_text (Label s) = s
field_text (Name s) = escaped s
field_text (Moment n) = moment_text n
field_text (Day n) = day_text n
field_text (Seconds n) = duration_text n
field_text (Change n) = duration_text n
field_text (Number n) = decimal n
field_text (Count n) = decimal n
field_text (EventKind e) = event_text e

-- the values of a field
abbrev pub IsFieldValue : FieldValue → Type 0
IsFieldValue (StopRef s) = IsTrue (is_stop_ref s)
IsFieldValue (Code s) = IsTrue (is_code s)
IsFieldValue (Label s) = IsTrue (is_label s)
IsFieldValue (Name s) = IsTrue (is_name s)
IsFieldValue (Moment n) = n ≤ LAST_SECOND
IsFieldValue (Day n) = (FIRST_DAY ≤ n) × (n ≤ LAST_DAY)
IsFieldValue (Seconds n) = n < 2 ^ 32
IsFieldValue (Change n) = (1 ≤ n) × (n ≤ 7_200)
IsFieldValue (Number n) = (1 ≤ n) × (n ≤ 100)
IsFieldValue (Count n) = n < 2 ^ 32
IsFieldValue (EventKind e) = Unit {0}

-- a text spells a value of a kind
pub record Spells (kind : Kind) (value : FieldValue) (text : List ℕ) : Type 0 where
  pub kind_is : kind_of value ≡ kind
  pub is : IsFieldValue value
  pub text_is : field_text value ≡ text
