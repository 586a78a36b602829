-- Counts of faults and of rejections of the regions, between two moments.
use Rattle.std.specs.Prelude.{◌≡◌, ◌<◌, ℕ, List, length, None}
use Rattle.ojp_outside.specs.Causes.{Rose}
use Rattle.ojp_values.specs.Texts.{Text}
use Rattle.ojp_values.specs.declared.asks.TripAsk.{TripAsk}
use Rattle.ojp_timetable.specs.Tables.{Timetable}
use Rattle.ojp_exchange.specs.Book.{Book}
use Rattle.ojp_links.specs.Seen.{View, code_at, TellsTables}
use Rattle.ojp_records.specs.declared.queries.Entry.{Entry}
use Rattle.ojp_records.specs.Records.{region_of}
use Rattle.ojp_records.specs.Headline.{AreTablesOf, AreGiven}

-- the count of faults of the region with the code rose
abbrev pub FaultRose : View → View → Text → Type 0
FaultRose old new code =
    (region : ℕ) × (region < length old.fixed.stations) × (code_at old region ≡ code) × Rose (old.faults region) (new.faults region)

-- a failure is of a region whose count of faults rose
abbrev pub HasCause : View → View → Entry → Type 0
HasCause old new entry = entry.reply ≡ None → FaultRose old new (region_of entry.query)

-- no count of rejections rose
abbrev pub NoRejectionRose : View → View → Type 0
NoRejectionRose old new = (region : ℕ) → new.rejections region ≡ old.rejections region

-- where timetables are told and the book is theirs, and they give each reply of the record, nothing is rejected
abbrev pub RejectsNone : Book → TripAsk → List Entry → View → View → Type 0
RejectsNone book ask told old new =
    (tables : List Timetable) → TellsTables old tables → AreTablesOf tables book → AreGiven tables book ask told → NoRejectionRose old new

-- where timetables are told and they give each reply of the record, they give each reply of the later one
abbrev pub TellsGiven : Book → TripAsk → View → List Entry → List Entry → Type 0
TellsGiven book ask old before after = (tables : List Timetable) → TellsTables old tables → AreGiven tables book ask before → AreGiven tables book ask after
