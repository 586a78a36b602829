-- The files of a folder in memory.
use Rattle.std.specs.Prelude.{List, find, string_bytes}
use Rattle.std.specs.Str.{bytes_eq}
use Rattle.std.specs.Option.{option_map}
use Rattle.ojp_feed_lines.specs.Folders.{Files}
use Rattle.ojp_feed_lines.specs.Refusals.{name_of}
use Rattle.ojp_feed_lines.specs.declared.mem_folder.MemFile.{MemFile}

-- the contents of the first file of a name
abbrev pub files_of : List MemFile → Files
files_of files = λ file. option_map (λ f. f.bytes.items) (find (λ f. bytes_eq (string_bytes f.name) (name_of file)) files)
