-- What a search over regions that answer by their timetables may conclude from its record.
use Rattle.std.specs.Prelude.{◌≡◌, ℕ, List, ◌⊎◌, Option, Some, None}
use Rattle.ojp_values.specs.Lists.{Among, Each}
use Rattle.ojp_values.specs.Texts.{Text}
use Rattle.ojp_values.specs.declared.asks.TripAsk.{TripAsk}
use Rattle.ojp_values.specs.declared.replies.Fault.{Fault}
use Rattle.ojp_values.specs.declared.replies.Fault.TheVariants.{SameStop, StopUnknown, NoTrip, RegionFailed, NotServed}
use Rattle.ojp_values.specs.declared.replies.Delivery.{Delivery}
use Rattle.ojp_timetable.specs.Tables.{Timetable}
use Rattle.ojp_timetable.specs.Journeys.{AreTables}
use Rattle.ojp_timetable.specs.GatewayAnswers.{IsPlace, HasNoJourney, IsEarliest}
use Rattle.ojp_timetable.specs.Answers.{RegionAnswers}
use Rattle.ojp_exchange.specs.Book.{Book, IsBookOfTables}
use Rattle.ojp_exchange.specs.Kept.{IsWellBook}
use Rattle.ojp_records.specs.declared.queries.Query.{Query}
use Rattle.ojp_records.specs.declared.queries.Entry.{Entry}
use Rattle.ojp_records.specs.Records.{region_of}
use Rattle.ojp_records.specs.Starts.{best}
use Rattle.ojp_records.specs.Ends.{PlaceFailed, FailureStands}
use Rattle.ojp_records.specs.Told.{document}

-- the timetables are well, and the book, which is well, is theirs
pub record AreTablesOf (tables : List Timetable) (book : Book) : Type 0 where
  pub tables_well : AreTables tables
  pub book_of : IsBookOfTables tables book
  pub book_well : IsWellBook book

-- a reply is what the query's region answers by its timetable
abbrev pub ReplyGiven : List Timetable → Book → TripAsk → Query → Option Delivery → Type 0
ReplyGiven tables book ask query None = Unit {0}
ReplyGiven tables book ask query (Some reply) =
    (table : Timetable) × Among table tables × (table.region ≡ region_of query) × RegionAnswers table (document book ask query) reply

-- the entry's reply is given by the timetables, where it has one
abbrev pub EntryGiven : List Timetable → Book → TripAsk → Entry → Type 0
EntryGiven tables book ask entry = ReplyGiven tables book ask entry.query entry.reply

-- the timetables give each reply of the record
abbrev pub AreGiven : List Timetable → Book → TripAsk → List Entry → Type 0
AreGiven tables book ask told = Each (EntryGiven tables book ask) told

-- both places are known, there is no journey, and no failure stands
pub record NoTripIsRight (tables : List Timetable) (book : Book) (ask : TripAsk) (told : List Entry) (stop : Text) : Type 0 where
  pub is_target : stop ≡ ask.target
  pub origin : IsPlace tables ask.origin
  pub target : IsPlace tables ask.target
  pub no_journey : HasNoJourney tables ask
  pub no_failure : (region : Text) → FailureStands book ask told region → ⊥

-- the stop is no place; it is the origin, or it is the target, and the origin is known or its check failed
pub record UnknownIsRight (tables : List Timetable) (ask : TripAsk) (told : List Entry) (stop : Text) : Type 0 where
  pub no_place : IsPlace tables stop → ⊥
  pub which : (stop ≡ ask.origin) ⊎ ((stop ≡ ask.target) × (IsPlace tables ask.origin ⊎ ((region : Text) × PlaceFailed told ask.origin region)))

-- what the end of a search means: of a trip, that the best arrival is the earliest of all united journeys
abbrev pub EndMeans : List Timetable → Book → TripAsk → List Entry → Option Fault → Type 0
EndMeans tables book ask told None = (arrival : ℕ) × (best book ask told ≡ Some arrival) × IsEarliest tables ask arrival
EndMeans tables book ask told (Some (NoTrip stop)) = NoTripIsRight tables book ask told stop
EndMeans tables book ask told (Some (StopUnknown stop)) = UnknownIsRight tables ask told stop
EndMeans tables book ask told (Some (RegionFailed region)) = FailureStands book ask told region
EndMeans tables book ask told (Some (SameStop stop)) = ⊥
EndMeans tables book ask told (Some NotServed) = ⊥
