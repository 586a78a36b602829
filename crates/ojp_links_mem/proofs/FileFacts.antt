-- What a call on the links leaves of the files.
use Rattle.std.proofs.Common.{◌≡◌, Bool, true, false, List, refl}
use Rattle.ojp_outside.specs.Seen.{StoreView}
use Rattle.ojp_timetable.specs.Tables.{Timetable}
use Rattle.ojp_links_mem.specs.Memory.{MemView}
use Rattle.ojp_links_mem.specs.Files.{SameFiles, files_of, tables_seen}

tables_still : (is_open : Bool) (read : List Timetable) (old new : MemView) → new.tables ≡ old.tables → tables_seen is_open read new ≡ tables_seen is_open read old
tables_still true read old new e = e
tables_still false read old new e = refl

pub same_files : (store : StoreView) (read : List Timetable) (is_open : Bool) (old new : MemView) → new.tables ≡ old.tables → SameFiles (files_of store read is_open old) (files_of store read is_open new)
same_files store read is_open old new e = record { store_same = refl; tables_same = tables_still is_open read old new e; is_open_same = refl }

-- before links are open the list is that of the timetables read
pub shut_tables : (is_open : Bool) (read : List Timetable) (links : MemView) → is_open ≡ false → tables_seen is_open read links ≡ read
shut_tables true read links e = absurd (cc)
shut_tables false read links e = refl
