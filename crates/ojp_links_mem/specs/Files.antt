-- Links to the regions of files: what was read, and what is so once they are open.
use Rattle.std.specs.Prelude.{◌≡◌, ◌++◌, ◌≤◌, ℕ, Bool, true, false, List, [], ◌∷◌, map, Option, Some, None, Result, Ok, Err}
use Rattle.std.specs.List.{count_by}
use Rattle.ojp_outside.specs.Seen.{StoreView}
use Rattle.ojp_values.specs.Texts.{Text, same, text_lt}
use Rattle.ojp_timetable.specs.Tables.{Timetable}
use Rattle.ojp_region.specs.Files.{IsFileOf, ReadsFile}
use Rattle.ojp_region.specs.declared.files.FileRefused.{FileRefused}
use Rattle.ojp_links.specs.Seen.{AreDistinct, View, region_of_table}
use Rattle.ojp_links_mem.specs.Memory.{IsNewOver, IsFresh, MemView, Renumbers, links_of}
use Rattle.ojp_links_mem.specs.declared.files.FileLinks.{FileLinks}
use Rattle.ojp_links_mem.specs.declared.files.OpenRefused.{OpenRefused}
use Rattle.ojp_links_mem.specs.declared.files.OpenRefused.TheVariants as opens

-- links over files: what is seen of the store; the timetables read, in the order read and then in rising order of their codes; whether
-- they are open; and the links
pub record FilesView : Type 0 where
  pub store : StoreView
  pub tables : List Timetable
  pub is_open : Bool
  pub links : MemView

-- ---- the calls

-- nothing was read yet, and there is no region
pub record HasReadNone (f : FilesView) : Type 0 where
  pub none_read : f.tables ≡ []
  pub shut : f.is_open ≡ false
  pub no_region : (links_of f.links).fixed.stations ≡ []
  pub fresh : IsFresh f.links

-- all but the store and the timetables is as it was
pub record StaysShut (old new : FilesView) : Type 0 where
  pub is_open_same : new.is_open ≡ old.is_open
  pub links_same : new.links ≡ old.links

-- what `read` does by its answer: the timetable stands behind the others, and its region's code is given; a refusal leaves the list
abbrev pub ReadEnds : Text → FilesView → FilesView → Result Text FileRefused → Type 0
ReadEnds file old new (Ok code) =
    (table : Timetable) × IsFileOf file old.store new.store table × (new.tables ≡ old.tables ++ table ∷ []) × (table.region ≡ code)
ReadEnds file old new (Err refused) = ReadsFile file old.store new.store (Err refused) × (new.tables ≡ old.tables)

-- a call on open or shut links leaves what was read and the store alone
pub record SameFiles (old new : FilesView) : Type 0 where
  pub store_same : new.store ≡ old.store
  pub tables_same : new.tables ≡ old.tables
  pub is_open_same : new.is_open ≡ old.is_open

-- what `renumber` does
pub record RenumbersFiles (old new : FilesView) (to : ℕ) : Type 0 where
  pub links_by : Renumbers old.links new.links to
  pub files : SameFiles old new

-- two of the codes are this one, and no lesser code is so
pub record IsLeastTwice (codes : List Text) (code : Text) : Type 0 where
  pub twice : 2 ≤ count_by (same code) codes
  pub least : (other : Text) → 2 ≤ count_by (same other) codes → text_lt other code ≡ false

-- the least code that stands twice, or none where they are distinct
abbrev pub IsTwiceAnswer : List Text → Option Text → Type 0
IsTwiceAnswer codes None = AreDistinct codes
IsTwiceAnswer codes (Some code) = IsLeastTwice codes code

-- the timetables read; of open links those of the links
abbrev pub tables_seen : Bool → List Timetable → MemView → List Timetable
tables_seen true read links = links.tables
tables_seen false read links = read

-- links over this store, with these timetables read
abbrev pub files_of : StoreView → List Timetable → Bool → MemView → FilesView
files_of store read is_open links = record { store = store; tables = tables_seen is_open read links; is_open = is_open; links = links }

-- what contracts see of them, by what is seen of their store
abbrev pub files_seen : {F : Type 0} → (F → StoreView) → FileLinks F → FilesView
files_seen seen f = files_of (seen f.store) f.tables.items f.is_open f.links

-- what is seen of them as links
abbrev pub links_seen : {F : Type 0} → FileLinks F → View
links_seen f = links_of f.links

-- open: as links in memory that are made of the timetables, with order 0 and all bytes for a look
pub record Opens (old new : FilesView) : Type 0 where
  pub distinct : AreDistinct (map region_of_table old.tables)
  pub is_open_now : new.is_open ≡ true
  pub new_over : IsNewOver old.tables 0 0 new.links
  pub tables_are : new.tables ≡ new.links.tables
  pub store_same : new.store ≡ old.store

-- what `open` does by its answer
abbrev pub OpenEnds : {T : Type 0} → FilesView → FilesView → Result T OpenRefused → Type 0
OpenEnds old new (Ok done) = Opens old new
OpenEnds old new (Err (opens.TwiceRegion code)) = IsLeastTwice (map region_of_table old.tables) code × (new ≡ old)
OpenEnds old new (Err opens.NoMemory) = (new.tables ≡ []) × (new.store ≡ old.store) × StaysShut old new
