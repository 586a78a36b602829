-- What the forms in memory tell of themselves: all of it.
use Rattle.std.specs.Prelude.{Some}
use Rattle.ojp_outside.specs.Files.{first_named}
use Rattle.ojp_outside.specs.Memory.{MemSourceView, MemSinkView, MemStoreView}
use Rattle.ojp_outside.specs.Seen.{SourceView, SinkView, StoreView}

abbrev pub source_of : MemSourceView → SourceView
source_of s = record { left = Some s.left; ended = s.ended; faults = s.faults }

abbrev pub sink_of : MemSinkView → SinkView
sink_of s = record { written = Some s.written; faults = s.faults }

-- of several files of one name the first is told
abbrev pub store_of : MemStoreView → StoreView
store_of s = record { contents = Some (first_named s.files); failed_name = Some s.failed_name; faults = s.faults }
