-- Why a file of a folder is refused, by its records.
use Rattle.std.specs.Prelude.{◌≡◌, ◌≢◌, ◌<◌, ◌≤◌, ◌⊎◌, ⊤, ℕ, Bool, true, false, Contains, IsTrue, List, [], ◌∷◌, ◌++◌, length, Some, None}
use Rattle.csv.specs.Reading.{Reached, default_config}
use Rattle.csv.specs.Records.{AllText, field_at}
use Rattle.csv.specs.declared.error.ErrorKind.{ErrorKind}
use Rattle.csv.specs.declared.error.ErrorKind.TheVariants as kind
use Rattle.csv.specs.declared.parser.State.{State}
use Rattle.csv.specs.declared.parser.State.TheVariants as st
use Rattle.ojp_values.specs.Texts.{Text}
use Rattle.ojp_feed_lines.specs.Columns.{column_name}
use Rattle.ojp_feed_lines.specs.Fields.{IsNoDate, access_of, compact_day, empty_or_seconds, empty_or_time, exact_of, exception_kind_of, flag_of, is_count, is_headway, is_time, location_of, transfer_kind_of}
use Rattle.ojp_feed_lines.specs.Rows.{Record, under}
use Rattle.ojp_feed_lines.specs.Tables.{HasEnded}
use Rattle.ojp_feed_lines.specs.declared.columns.Column.{Column}
use Rattle.ojp_feed_lines.specs.declared.columns.Column.TheVariants as columns
use Rattle.ojp_feed_lines.specs.declared.files.FeedFile.{FeedFile}
use Rattle.ojp_feed_lines.specs.declared.files.FeedFile.TheVariants as files
use Rattle.ojp_feed_lines.specs.declared.ids.TheConstants.{MOST_IDS}
use Rattle.ojp_feed_lines.specs.declared.refusals.FeedRefused.{FeedRefused}
use Rattle.ojp_feed_lines.specs.declared.refusals.FeedRefused.TheVariants as refusals
use Rattle.ojp_feed_lines.specs.declared.refusals.RowReason.{RowReason}
use Rattle.ojp_feed_lines.specs.declared.refusals.RowReason.TheVariants as reasons

-- the columns that a head line must have
abbrev pub needs : FeedFile → Column → Bool
needs files.Agency columns.AgencyTimezone = true
needs files.Stops columns.StopId = true
needs files.Routes columns.RouteId = true
needs files.Calendar columns.ServiceId = true
needs files.Calendar columns.Monday = true
needs files.Calendar columns.Tuesday = true
needs files.Calendar columns.Wednesday = true
needs files.Calendar columns.Thursday = true
needs files.Calendar columns.Friday = true
needs files.Calendar columns.Saturday = true
needs files.Calendar columns.Sunday = true
needs files.Calendar columns.StartDate = true
needs files.Calendar columns.EndDate = true
needs files.CalendarDates columns.ServiceId = true
needs files.CalendarDates columns.Date = true
needs files.CalendarDates columns.ExceptionType = true
needs files.Trips columns.TripId = true
needs files.Trips columns.RouteId = true
needs files.Trips columns.ServiceId = true
needs files.Frequencies columns.TripId = true
needs files.Frequencies columns.StartTime = true
needs files.Frequencies columns.EndTime = true
needs files.Frequencies columns.HeadwaySecs = true
needs files.Transfers columns.FromStopId = true
needs files.Transfers columns.ToStopId = true
needs files.StopTimes columns.TripId = true
needs files.StopTimes columns.StopId = true
needs files.StopTimes columns.StopSequence = true
needs files.StopTimes columns.ArrivalTime = true
needs files.StopTimes columns.DepartureTime = true
needs _ _ = false

-- the columns whose fields must be of a form
abbrev pub checks : FeedFile → Column → Bool
checks files.Agency columns.AgencyTimezone = true
checks files.Stops columns.StopId = true
checks files.Stops columns.LocationType = true
checks files.Routes columns.RouteId = true
checks files.Calendar columns.ServiceId = true
checks files.Calendar columns.Monday = true
checks files.Calendar columns.Tuesday = true
checks files.Calendar columns.Wednesday = true
checks files.Calendar columns.Thursday = true
checks files.Calendar columns.Friday = true
checks files.Calendar columns.Saturday = true
checks files.Calendar columns.Sunday = true
checks files.Calendar columns.StartDate = true
checks files.Calendar columns.EndDate = true
checks files.CalendarDates columns.ServiceId = true
checks files.CalendarDates columns.Date = true
checks files.CalendarDates columns.ExceptionType = true
checks files.Trips columns.TripId = true
checks files.Frequencies columns.StartTime = true
checks files.Frequencies columns.EndTime = true
checks files.Frequencies columns.HeadwaySecs = true
checks files.Frequencies columns.ExactTimes = true
checks files.Transfers columns.TransferType = true
checks files.Transfers columns.MinTransferTime = true
checks files.StopTimes columns.StopSequence = true
checks files.StopTimes columns.ArrivalTime = true
checks files.StopTimes columns.DepartureTime = true
checks files.StopTimes columns.PickupType = true
checks files.StopTimes columns.DropOffType = true
checks _ _ = false

-- the columns of which no two rows may have the same; in calendar_dates.txt no two rows of one service
abbrev pub doubles : FeedFile → Column → Bool
doubles files.Stops columns.StopId = true
doubles files.Routes columns.RouteId = true
doubles files.Calendar columns.ServiceId = true
doubles files.CalendarDates columns.Date = true
doubles files.Trips columns.TripId = true
doubles _ _ = false

-- a field that is not of the form of its column
abbrev pub IsBad : Column → Text → Type 0
IsBad columns.AgencyTimezone text = text ≡ []
IsBad columns.ArrivalTime text = empty_or_time text ≡ None
IsBad columns.Date text = IsNoDate text
IsBad columns.DepartureTime text = empty_or_time text ≡ None
IsBad columns.DropOffType text = access_of text ≡ None
IsBad columns.EndDate text = IsNoDate text
IsBad columns.EndTime text = is_time text ≡ false
IsBad columns.ExactTimes text = exact_of text ≡ None
IsBad columns.ExceptionType text = exception_kind_of text ≡ None
IsBad columns.Friday text = flag_of text ≡ None
IsBad columns.HeadwaySecs text = is_headway text ≡ false
IsBad columns.LocationType text = location_of text ≡ None
IsBad columns.MinTransferTime text = empty_or_seconds text ≡ None
IsBad columns.Monday text = flag_of text ≡ None
IsBad columns.PickupType text = access_of text ≡ None
IsBad columns.RouteId text = text ≡ []
IsBad columns.Saturday text = flag_of text ≡ None
IsBad columns.ServiceId text = text ≡ []
IsBad columns.StartDate text = IsNoDate text
IsBad columns.StartTime text = is_time text ≡ false
IsBad columns.StopId text = text ≡ []
IsBad columns.StopSequence text = is_count 4294967295 text ≡ false
IsBad columns.Sunday text = flag_of text ≡ None
IsBad columns.Thursday text = flag_of text ≡ None
IsBad columns.TransferType text = transfer_kind_of text ≡ None
IsBad columns.TripId text = text ≡ []
IsBad columns.Tuesday text = flag_of text ≡ None
IsBad columns.Wednesday text = flag_of text ≡ None
IsBad _ text = ⊥

-- the row ends on a day before that of its start
abbrev pub EndsEarly : Record → Record → Type 0
EndsEarly head row =
    (first : ℕ) × (last : ℕ) × (under head (column_name columns.StartDate) row ≡ compact_day first)
    × (under head (column_name columns.EndDate) row ≡ compact_day last) × last < first

-- two rows have the same field in a column
abbrev pub AreSame : Column → Record → Record → Record → Type 0
AreSame column head one other = under head (column_name column) one ≡ under head (column_name column) other

-- why a row is refused, by the head line and the rows above it; of services of both calendars that are too many nothing more is said
unfoldable pub IsRefused : FeedFile → RowReason → Record → List Record → Record → Type 0
IsRefused file reasons.Width head above row = length row ≢ length head
IsRefused file (reasons.Value column) head above row =
    IsTrue (checks file column) × (IsBad column (under head (column_name column) row) ⊎ (column ≡ columns.EndDate) × EndsEarly head row)
IsRefused file reasons.TwoZones head above row =
    (file ≡ files.Agency) × (other : Record) × Contains above other
    × (under head (column_name columns.AgencyTimezone) other ≢ under head (column_name columns.AgencyTimezone) row)
IsRefused file (reasons.Doubled column) head above row =
    IsTrue (doubles file column)
    × ((other : Record) × Contains above other × AreSame column head other row × (file ≡ files.CalendarDates → AreSame columns.ServiceId head other row))
IsRefused file reasons.Limit head above row = (file ≡ files.CalendarDates) ⊎ MOST_IDS ≤ length above
IsRefused file reasons.MissingFile head above row = ⊥
IsRefused file (reasons.MissingColumn column) head above row = ⊥
IsRefused file reasons.NotText head above row = ⊥
IsRefused file (reasons.Unknown column) head above row = ⊥
IsRefused file reasons.LineForm head above row = ⊥

-- no field of the head line is the name
abbrev pub LacksName : Record → Text → Type 0
LacksName head name = (k : ℕ) → field_at head k ≢ Some name

-- the reason is a column that the head line must have and lacks
unfoldable pub IsLacking : FeedFile → RowReason → Record → Type 0
IsLacking file (reasons.MissingColumn column) head = IsTrue (needs file column) × LacksName head (column_name column)
IsLacking file _ head = ⊥

-- the text begins with these records, the head line first
abbrev pub BeginsWith : Text → List Record → Type 0
BeginsWith text records = (state : State) × (left : Text) × Reached default_config st.StartRecord text records state left

-- the text has no head line, or one that lacks the column
abbrev pub LacksColumn : Column → Text → Type 0
LacksColumn column text = HasEnded text [] ⊎ ((head : Record) × BeginsWith text (head ∷ []) × LacksName head (column_name column))

-- the text has a row of which this holds, by the head line and the rows above it
pub record HasRow (Is : Record → List Record → Record → Type 0) (text : Text) : Type 0 where
  pub head : Record
  pub above : List Record
  pub row : Record
  pub begins : BeginsWith text (head ∷ above ++ row ∷ [])
  pub is : Is head above row

-- the text has a record that is no text in UTF-8
abbrev pub HasNoText : Text → Type 0
HasNoText text = (above : List Record) × (row : Record) × BeginsWith text (above ++ row ∷ []) × ¬ AllText row

-- the text has a head line and no row
abbrev pub LacksRows : Text → Type 0
LacksRows text = (head : Record) × HasEnded text (head ∷ [])

-- the text has as many rows as a file may have ids, or more
abbrev pub HasManyRows : Text → Type 0
HasManyRows text = (head : Record) × (rows : List Record) × BeginsWith text (head ∷ rows) × MOST_IDS ≤ length rows

-- why a file is refused, by its text; calendar_dates.txt also where its services and those of calendar.txt are too many
unfoldable pub IsCause : FeedFile → RowReason → Text → Type 0
IsCause file reasons.MissingFile text = ⊥
IsCause file (reasons.MissingColumn column) text = IsTrue (needs file column) × LacksColumn column text
IsCause file reasons.Width text = HasRow (IsRefused file reasons.Width) text
IsCause file reasons.NotText text = HasNoText text
IsCause file (reasons.Value column) text =
    HasRow (IsRefused file (reasons.Value column)) text ⊎ (file ≡ files.Agency) × (column ≡ columns.AgencyTimezone) × LacksRows text
IsCause file reasons.TwoZones text = HasRow (IsRefused file reasons.TwoZones) text
IsCause file (reasons.Doubled column) text = HasRow (IsRefused file (reasons.Doubled column)) text
IsCause file (reasons.Unknown column) text = ⊥
IsCause file reasons.LineForm text = ⊥
IsCause file reasons.Limit text = (file ≡ files.CalendarDates) ⊎ HasManyRows text

-- the same of a refusal

-- the refusal is for this reason
abbrev pub IsFor : RowReason → FeedRefused → Type 0
IsFor reason (refusals.Unread file) = ⊥
IsFor reason (refusals.At file line other) = other ≡ reason
IsFor reason refusals.NoMemory = ⊥

-- the refusal is of a column that the head line lacks
abbrev pub IsOfHead : FeedFile → Record → FeedRefused → Type 0
IsOfHead file head (refusals.Unread other) = ⊥
IsOfHead file head (refusals.At other line reason) = IsLacking file reason head
IsOfHead file head refusals.NoMemory = ⊤

-- the refusal has its cause in the row, or is want of memory
abbrev pub IsOfRow : FeedFile → Record → List Record → Record → FeedRefused → Type 0
IsOfRow file head above row (refusals.Unread other) = ⊥
IsOfRow file head above row (refusals.At other line reason) = IsRefused file reason head above row
IsOfRow file head above row refusals.NoMemory = ⊤

-- the refusal has its cause in the text, or tells a read that failed or want of memory
abbrev pub IsOfText : FeedFile → Text → FeedRefused → Type 0
IsOfText file text (refusals.Unread other) = ⊤
IsOfText file text (refusals.At other line reason) = IsCause file reason text
IsOfText file text refusals.NoMemory = ⊤

-- the refusal is of no row
abbrev pub IsOfNoRow : FeedRefused → Type 0
IsOfNoRow (refusals.Unread other) = ⊤
IsOfNoRow (refusals.At other line reason) = ⊥
IsOfNoRow refusals.NoMemory = ⊤

-- the refusal is for what a read of a record tells
abbrev pub TellsKind : ErrorKind → FeedRefused → Type 0
TellsKind (kind.Io e) refused = IsOfNoRow refused
TellsKind (kind.Utf8 pos err) refused = IsFor reasons.NotText refused
TellsKind (kind.UnequalLengths pos expected len) refused = IsFor reasons.Width refused
TellsKind (kind.Serialize text) refused = IsOfNoRow refused
TellsKind (kind.Deserialize pos err) refused = IsOfNoRow refused
TellsKind kind.OutOfMemory refused = IsOfNoRow refused

-- the refusal has its cause in the row, whatever stands above it, under a head line in which the columns have these places
abbrev pub IsOfPlaced : FeedFile → (Record → Type 0) → Record → FeedRefused → Type 0
IsOfPlaced file places row refused = (head : Record) (above : List Record) → places head → IsOfRow file head above row refused

-- why an id is not added to those that are there
abbrev pub IsIdReason : List Text → Text → Column → RowReason → Type 0
IsIdReason ids id column reasons.Limit = MOST_IDS ≤ length ids
IsIdReason ids id column (reasons.Value other) = (other ≡ column) × (id ≡ [])
IsIdReason ids id column (reasons.Doubled other) = (other ≡ column) × Contains ids id
IsIdReason ids id column reasons.MissingFile = ⊥
IsIdReason ids id column (reasons.MissingColumn other) = ⊥
IsIdReason ids id column reasons.Width = ⊥
IsIdReason ids id column reasons.NotText = ⊥
IsIdReason ids id column reasons.TwoZones = ⊥
IsIdReason ids id column (reasons.Unknown other) = ⊥
IsIdReason ids id column reasons.LineForm = ⊥

abbrev pub IsIdRefusal : List Text → Text → Column → FeedRefused → Type 0
IsIdRefusal ids id column (refusals.Unread other) = ⊥
IsIdRefusal ids id column (refusals.At other line reason) = IsIdReason ids id column reason
IsIdRefusal ids id column refusals.NoMemory = ⊤
