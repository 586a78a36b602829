-- Why a feed is refused.
use Rattle.std.specs.Prelude.{◌≡◌, ◌≢◌, ◌<◌, ◌⊎◌, ℕ, IsSomeAnd, IsTrue, Bool, true, false, ⊤, List, Option, codes, length}
use Rattle.csv.specs.Reading.{strip_bom}
use Rattle.ojp_values.specs.Texts.{Text}
use Rattle.ojp_feed_lines.specs.Causes.{IsCause}
use Rattle.ojp_feed_lines.specs.Folders.{Files, Lacks}
use Rattle.ojp_feed_lines.specs.OperatorCauses.{IsOperatorCause}
use Rattle.ojp_feed_lines.specs.Places.{AreStopIdsOf}
use Rattle.ojp_feed_lines.specs.Rows.{OfFile}
use Rattle.ojp_feed_lines.specs.declared.files.FeedFile.{FeedFile}
use Rattle.ojp_feed_lines.specs.declared.files.FeedFile.TheVariants as files
use Rattle.ojp_feed_lines.specs.declared.refusals.FeedRefused.{FeedRefused}
use Rattle.ojp_feed_lines.specs.declared.refusals.FeedRefused.TheVariants as refusals
use Rattle.ojp_feed_lines.specs.declared.refusals.RowReason.{RowReason}
use Rattle.ojp_feed_lines.specs.declared.refusals.RowReason.TheVariants as reasons
use Rattle.ojp_feed_lines.specs.declared.folder.TheConstants.{MOST_BYTES}

-- the name in the folder
abbrev pub name_of : FeedFile → Text
name_of files.Agency = codes "agency.txt"
name_of files.Stops = codes "stops.txt"
name_of files.Routes = codes "routes.txt"
name_of files.Calendar = codes "calendar.txt"
name_of files.CalendarDates = codes "calendar_dates.txt"
name_of files.Trips = codes "trips.txt"
name_of files.Frequencies = codes "frequencies.txt"
name_of files.Transfers = codes "transfers.txt"
name_of files.StopTimes = codes "stop_times.txt"
name_of files.Operator = codes "exchanges"

-- a file could not be read
abbrev pub is_unread : FeedRefused → Bool
is_unread (refusals.Unread file) = true
is_unread (refusals.At file line reason) = false
is_unread refusals.NoMemory = false

-- a file that must be there is not among the told ones; of the two calendars neither is
abbrev pub IsMissed : Option Files → FeedFile → Type 0
IsMissed contents files.Agency = Lacks contents files.Agency
IsMissed contents files.Stops = Lacks contents files.Stops
IsMissed contents files.Routes = Lacks contents files.Routes
IsMissed contents files.Calendar = Lacks contents files.Calendar × Lacks contents files.CalendarDates
IsMissed contents files.CalendarDates = ⊥
IsMissed contents files.Trips = Lacks contents files.Trips
IsMissed contents files.Frequencies = ⊥
IsMissed contents files.Transfers = ⊥
IsMissed contents files.StopTimes = Lacks contents files.StopTimes
IsMissed contents files.Operator = ⊥

-- the told bytes of the file are the cause, without the byte order mark that they may begin with; the operator's file does not
-- lie in the folder
abbrev pub HasCause : Option Files → FeedFile → RowReason → Type 0
HasCause contents file reason = (file ≢ files.Operator) × OfFile contents file (λ bytes. IsCause file reason (strip_bom bytes))

-- the same of a limit: the file is too long, or has too many rows
abbrev pub PassesLimit : Option Files → FeedFile → Type 0
PassesLimit contents file = (file ≢ files.Operator) × OfFile contents file (λ bytes. MOST_BYTES < length bytes ⊎ IsCause file reasons.Limit (strip_bom bytes))

-- a file is told as missing only where it is missed, and else by its bytes
abbrev pub ExplainsAt : Option Files → FeedFile → RowReason → Type 0
ExplainsAt contents file reasons.MissingFile = IsMissed contents file
ExplainsAt contents file (reasons.MissingColumn column) = HasCause contents file (reasons.MissingColumn column)
ExplainsAt contents file reasons.Width = HasCause contents file reasons.Width
ExplainsAt contents file reasons.NotText = HasCause contents file reasons.NotText
ExplainsAt contents file (reasons.Value column) = HasCause contents file (reasons.Value column)
ExplainsAt contents file reasons.TwoZones = HasCause contents file reasons.TwoZones
ExplainsAt contents file (reasons.Doubled column) = HasCause contents file (reasons.Doubled column)
ExplainsAt contents file (reasons.Unknown column) = HasCause contents file (reasons.Unknown column)
ExplainsAt contents file reasons.LineForm = HasCause contents file reasons.LineForm
ExplainsAt contents file reasons.Limit = PassesLimit contents file

-- the told files explain why a line of the folder is refused
abbrev pub Explains : Option Files → FeedRefused → Type 0
Explains contents (refusals.Unread file) = ⊤
Explains contents (refusals.At file line reason) = ExplainsAt contents file reason
Explains contents refusals.NoMemory = ⊤

-- the bytes of the operator's file are the cause, with the ids of the told stops.txt
pub record IsOperatorRefused (contents : Option Files) (code : Text) (bytes : Text) (line : ℕ) (reason : RowReason) : Type 0 where
  pub ids : List Text
  pub of_stops : OfFile contents files.Stops (λ stops. AreStopIdsOf stops ids)
  pub cause : IsOperatorCause code ids bytes line reason

-- the operator's file, read for the region of this code, explains why a line of it is refused
abbrev pub ExplainsOperator : Option Files → Text → Option Text → FeedRefused → Type 0
ExplainsOperator contents code operator (refusals.Unread file) = ⊥
ExplainsOperator contents code operator (refusals.At file line reason) =
    (file ≡ files.Operator) × IsSomeAnd operator (λ bytes. IsOperatorRefused contents code bytes line reason)
ExplainsOperator contents code operator refusals.NoMemory = ⊥

-- the told files or the operator's explain why a line is refused
abbrev pub ExplainsAll : Option Files → Text → Option Text → FeedRefused → Type 0
ExplainsAll contents code operator refused = Explains contents refused ⊎ ExplainsOperator contents code operator refused

-- the reason is not that a file is not there
abbrev pub is_of_row : RowReason → Bool
is_of_row reasons.MissingFile = false
is_of_row (reasons.MissingColumn column) = true
is_of_row reasons.Width = true
is_of_row reasons.NotText = true
is_of_row (reasons.Value column) = true
is_of_row reasons.TwoZones = true
is_of_row (reasons.Doubled column) = true
is_of_row (reasons.Unknown column) = true
is_of_row reasons.LineForm = true
is_of_row reasons.Limit = true

-- the refusal is of a row of this file, or want of memory
abbrev pub IsRowRefusal : FeedFile → FeedRefused → Type 0
IsRowRefusal file (refusals.Unread other) = ⊥
IsRowRefusal file (refusals.At other line reason) = (other ≡ file) × IsTrue (is_of_row reason)
IsRowRefusal file refusals.NoMemory = ⊤

-- the refusal is of a row of this file, of a read of it that failed, or want of memory
abbrev pub IsTableRefusal : FeedFile → FeedRefused → Type 0
IsTableRefusal file (refusals.Unread other) = other ≡ file
IsTableRefusal file (refusals.At other line reason) = (other ≡ file) × IsTrue (is_of_row reason)
IsTableRefusal file refusals.NoMemory = ⊤

-- a file that must be there by itself
abbrev pub IsNeeded : FeedFile → Type 0
IsNeeded files.Agency = ⊤
IsNeeded files.Stops = ⊤
IsNeeded files.Routes = ⊤
IsNeeded files.Calendar = ⊥
IsNeeded files.CalendarDates = ⊥
IsNeeded files.Trips = ⊤
IsNeeded files.Frequencies = ⊥
IsNeeded files.Transfers = ⊥
IsNeeded files.StopTimes = ⊤
IsNeeded files.Operator = ⊥
