-- What contracts see of a folder.
use Rattle.std.specs.Prelude.{◌≡◌, ℕ, ◌+◌, ◌-◌, ◌^◌, ◌<◌, min, length, IfSome, IsSomeAnd, Option, Some, None}
use Rattle.ojp_values.specs.Texts.{Text}
use Rattle.ojp_feed_lines.specs.declared.files.FeedFile.{FeedFile}
use Rattle.ojp_feed_lines.specs.declared.folder.TheConstants.{MOST_BYTES}

-- the contents of each file: none where it is not there
abbrev pub Files : Type 0
Files = FeedFile → Option Text

-- a folder: its files, where they are told, and how often an opening or a read failed
pub record FolderView : Type 0 where
  pub contents : Option Files
  pub faults : ℕ

-- the sum of two counts, which stands still at its last value
abbrev pub added : ℕ → ℕ → ℕ
added count more = min (count + more) (2 ^ 64 - 1)

-- the bytes that an opened file has left are those of the file, where files are told
abbrev pub IsOpened : Option Files → FeedFile → Option Text → Type 0
IsOpened contents file left = IfSome contents (λ files. IsSomeAnd (files file) (λ bytes. left ≡ Some bytes))

-- the told files lack this one
abbrev pub Lacks : Option Files → FeedFile → Type 0
Lacks contents file = IfSome contents (λ files. files file ≡ None)

-- the told file has more bytes than a file may have
abbrev pub IsTooLong : Option Files → FeedFile → Type 0
IsTooLong contents file = IfSome contents (λ files. IsSomeAnd (files file) (λ bytes. MOST_BYTES < length bytes))
