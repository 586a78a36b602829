-- What `gateway` does with a file of regions, with their servers, and with the connections at its port.
use Rattle.std.specs.Prelude.{◌≡◌, ◌⊎◌, ℕ, ◌<◌, ◌≤◌, length, List, map, Option}
use Rattle.ojp_values.specs.Texts.{Text}
use Rattle.ojp_values.specs.declared.asks.Ask.{Ask}
use Rattle.ojp_values.specs.declared.replies.Delivery.{Delivery}
use Rattle.ojp_outside.specs.Causes.{Rests}
use Rattle.ojp_outside.specs.declared.store.TheConstants.{FILE_LIMIT}
use Rattle.ojp_outside.specs.Seen.{SinkView, StoreView}
use Rattle.ojp_timetable.specs.Tables.{Timetable}
use Rattle.ojp_timetable.specs.declared.file.lines.TableReason.{TableReason}
use Rattle.ojp_exchange.specs.Book.{Book, points_of}
use Rattle.ojp_exchange.specs.Joins.{IsJoined}
use Rattle.ojp_exchange.specs.declared.refusals.BookRefused.TheVariants as refusals
use Rattle.ojp_grammar.specs.Answering.{AnswersBody}
use Rattle.ojp_links.specs.Seen.{View, NoneLive, TellsTables}
use Rattle.ojp_links.specs.Calls.{Keeps}
use Rattle.ojp_records.specs.declared.queries.Entry.{Entry}
use Rattle.ojp_regions.specs.RegionsText.{IsListRefused as IsTextRefused}
use Rattle.ojp_regions.specs.declared.line.RegionLine.{RegionLine}
use Rattle.ojp_gateway.specs.Answers.{Answers, NoneRejected}
use Rattle.ojp_gateway.specs.Learning.{FailsFirst, IsLearned, IsRefusedHeard}
use Rattle.ojp_steps.specs.Lent.{Lent, before, after, IsUnused, Gains, GainsInPart}
use Rattle.ojp_steps.specs.Files.{StandsAsBefore, FailsToOpen, IsTooLong, IsReadable}
use Rattle.ojp_steps.specs.Serving.{DoorsSeen, DoorsRest, ready, Listens, FailsToListen, ServesAll, ServesInPart}
use Rattle.ojp_steps.specs.declared.failures.Failure.{Failure}
use Rattle.ojp_steps.specs.declared.failures.Failure.TheVariants.{Unread, TooLong, Output, Memory, Line, TooMany, Disagree, Region, Doors}
use Rattle.ojp_online.specs.Added.{as_added, HasFailedNone, HasStations}
use Rattle.ojp_online.specs.RegionFiles.{IsFileOf, IsRefusedFile, IsGood}

-- what the gateway gives to an ask since its regions were added, for some record of replies and failures: a delivery of its kind, which is
-- that of the ended search that has this record; each failure of the record is of a region whose count rose, and so is the region that the
-- delivery names; where timetables are told and the book is theirs, it is the answer by them, but that a search may end otherwise where a
-- region's count rose
abbrev pub GatewayGives : Book → View → Ask → Delivery → Type 0
GatewayGives book links ask delivery = (told : List Entry) × Answers book (as_added links) links told ask delivery

-- the links pass on: their regions stay, no ask is live, and where timetables are told and the book is theirs, nothing was rejected
pub record PassesOn (book : Book) (old new : View) : Type 0 where
  pub keeps : Keeps old new
  pub none_live : NoneLive new
  pub none_rejected : NoneRejected book old new

-- the links have the regions of the file, in the order of its lines, each with the code, the host and the port of its line
pub record HasFile {F L : Type 0} (file : Text) (store : Lent F StoreView) (links : Lent L View) : Type 0 where
  pub regions : List RegionLine
  pub of_file : IsFileOf file store regions
  pub added : HasStations regions (after links)

-- the regions of the file are the links', and their book was learned
pub record HasLearned {F L : Type 0} (file : Text) (store : Lent F StoreView) (links : Lent L View) (book : Book) : Type 0 where
  pub has_file : HasFile file store links
  pub learned : IsLearned (after links) book

-- `ready` was written as a line, and then all connections were served over the links
pub record GatewayServed {F O D L : Type 0} (file : Text) (port : ℕ) (count : Option ℕ) (store : Lent F StoreView) (output : Lent O SinkView) (doors : Lent D DoorsSeen) (links : Lent L View) : Type 0 where
  pub book : Book
  pub learned : HasLearned file store links book
  pub is_ready : Gains output ready
  pub serves : ServesAll (AnswersBody (GatewayGives book (after links))) port count doors

-- `ready` was written as a line, and then connections were served over the links until the next could not be given
pub record GatewayServedInPart {F O D L : Type 0} (file : Text) (port : ℕ) (count : Option ℕ) (store : Lent F StoreView) (output : Lent O SinkView) (doors : Lent D DoorsSeen) (links : Lent L View) : Type 0 where
  pub book : Book
  pub learned : HasLearned file store links book
  pub is_ready : Gains output ready
  pub serves : ServesInPart (AnswersBody (GatewayGives book (after links))) port count doors

-- a book was learned of the regions of the file
abbrev pub HasBook : {F L : Type 0} → Text → Lent F StoreView → Lent L View → Type 0
HasBook file store links = (book : Book) × HasLearned file store links book

-- why `gateway` fails, and what it leaves alone then: the file comes before the links, these before the doors, and want of memory before
-- these
abbrev pub GatewayFails : {F O D L : Type 0} → Text → ℕ → Option ℕ → Lent F StoreView → Lent O SinkView → Lent D DoorsSeen → Lent L View → Failure → Type 0
GatewayFails file port count store output doors links (Unread name) =
    (name.now ≡ file) × FailsToOpen file store × IsUnused output × IsUnused doors × IsUnused links
GatewayFails file port count store output doors links (TooLong name) =
    (name.now ≡ file) × IsTooLong file store × IsUnused output × IsUnused doors × IsUnused links
GatewayFails file port count store output doors links (Line name line reason) =
    (name.now ≡ file) × IsRefusedFile file store line reason × IsUnused output × IsUnused doors × IsUnused links
GatewayFails file port count store output doors links Memory = StandsAsBefore store × IsUnused output × IsUnused doors
GatewayFails file port count store output doors links (Region code) =
    HasFile file store links × FailsFirst (as_added (after links)) (after links) code × IsUnused output × IsUnused doors
GatewayFails file port count store output doors links TooMany =
    HasFile file store links × IsRefusedHeard (after links) refusals.TooMany × IsUnused output × IsUnused doors
GatewayFails file port count store output doors links (Disagree point left right) =
    HasFile file store links × IsRefusedHeard (after links) (refusals.Disagree point left right) × IsUnused output × IsUnused doors
GatewayFails file port count store output doors links Output =
    HasBook file store links × GainsInPart output ready × Listens port count doors
GatewayFails file port count store output doors links Doors =
    (HasBook file store links × FailsToListen port count doors × IsUnused output) ⊎ GatewayServedInPart file port count store output doors links
GatewayFails file port count store output doors links failure = ⊥

-- the timetables make a book
abbrev pub MakeBook : List Timetable → Type 0
MakeBook tables = (book : Book) × IsJoined (map points_of tables) book

-- the status that is due where the file and the timetables are told and no count rose
pub data GatewayIsDue {F O D L : Type 0} (file : Text) (store : Lent F StoreView) (output : Lent O SinkView) (doors : Lent D DoorsSeen) (links : Lent L View) : ℕ → Type 0 where
  -- the file has more bytes than a file may have
  too_long : (bytes : Text) → IsReadable file store bytes → FILE_LIMIT < length bytes → GatewayIsDue file store output doors links 3
  -- the file is no file of regions
  no_regions : (bytes : Text) → IsReadable file store bytes → length bytes ≤ FILE_LIMIT
      → (line : ℕ) (reason : TableReason) → IsTextRefused bytes line reason → GatewayIsDue file store output doors links 6
  -- the timetables make no book
  no_book : (regions : List RegionLine) → IsGood file store regions → (tables : List Timetable) → TellsTables (after links) tables → HasFailedNone (after links)
      → (MakeBook tables → ⊥) → GatewayIsDue file store output doors links 7
  -- they make one, and neither a write nor a call of the doors failed
  all_served : (regions : List RegionLine) → IsGood file store regions → (tables : List Timetable) → TellsTables (after links) tables → HasFailedNone (after links)
      → MakeBook tables → Rests (before output).faults (after output).faults → DoorsRest doors → GatewayIsDue file store output doors links 0
