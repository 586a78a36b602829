-- The file of a name in a folder in memory.
use Rattle.std.proofs.Common.{◌≡◌, List, Option, Some, None, sym, ap, ◌∙◌, subst}
use Rattle.std.specs.Prelude.{IsSomeAnd, find, string_bytes}
use Rattle.std.specs.Str.{bytes_eq}
use Rattle.std.specs.Option.{option_map}
use Rattle.ojp_values.specs.Texts.{Text}
use Rattle.ojp_feed_lines.specs.MemFolders.{files_of}
use Rattle.ojp_feed_lines.specs.Refusals.{name_of}
use Rattle.ojp_feed_lines.specs.declared.files.FeedFile.{FeedFile}
use Rattle.ojp_feed_lines.specs.declared.mem_folder.MemFile.{MemFile}

-- the contents of the first file of a name
contents : List MemFile → Text → Option Text
contents files name = option_map (λ f. f.bytes.items) (find (λ f. bytes_eq (string_bytes f.name) name) files)

-- the files and the name by others that are the same
named_by : (files all : List MemFile) (name : Text) (file : FeedFile) → files ≡ all → name ≡ name_of file → contents files name ≡ files_of all file
unfolding contents
named_by files all name file same named =
    ap (λ (l : List MemFile). contents l name) same ∙ ap (λ (n : Text). contents all n) named

-- what was found are the contents of the file
pub named_found : (files all : List MemFile) (name : Text) (file : FeedFile) (found : MemFile)
    → files ≡ all → name ≡ name_of file → Some found ≡ find (λ f. bytes_eq (string_bytes f.name) name) files → files_of all file ≡ Some found.bytes.items
unfolding contents
named_found files all name file found same named is =
    sym (named_by files all name file same named) ∙ ap (option_map (λ (f : MemFile). f.bytes.items)) (sym is)

-- no file has this name
pub named_missing : (files all : List MemFile) (name : Text) (file : FeedFile)
    → files ≡ all → name ≡ name_of file → None ≡ find (λ f. bytes_eq (string_bytes f.name) name) files → files_of all file ≡ None
unfolding contents
named_missing files all name file same named none =
    sym (named_by files all name file same named) ∙ ap (option_map (λ (f : MemFile). f.bytes.items)) (sym none)

-- what holds of the contents that were found
pub of_named : (named : Option Text) (bytes : Text) (P : Text → Type 0) → named ≡ Some bytes → P bytes → IsSomeAnd named P
of_named named bytes P is h = subst (λ (o : Option Text). IsSomeAnd o P) (sym is) h
