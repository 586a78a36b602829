-- The words of the commands that may wait, and the command that they name.
use Rattle.std.specs.declared.alloc.Global.{Global}
use Rattle.std.specs.Fmt.{decimal}
use Rattle.std.specs.Prelude.{◌≡◌, ◌≤◌, ◌<◌, ◌^◌, ℕ, Bool, IsTrue, String, string_bytes, map, List, [], ◌∷◌, Option, Some, None, codes, nat_eq, bytes_eq, if◌then◌else◌}
use Rattle.std.specs.List.{starts_with}
use Rattle.ojp_values.specs.Texts.{Text}
use Rattle.ojp_regions.specs.Hosts.{is_host, IsPort as IsPortNumber}

-- a command: `region` with its timetable file, or `gateway` with its file of regions, and a port and a number of connections; or `ask` with
-- a host and a port
pub data Command : Type 0 where
  Region : Text → Text → Option Text → Command
  Gateway : Text → Text → Option Text → Command
  Ask : Text → Text → Command

-- the word is an option: it begins with two hyphens
abbrev pub is_option : Text → Bool
is_option word = starts_with nat_eq word (codes "--")

-- the word of a server, with its file, its port and its number of connections
abbrev pub server_if : Text → Text → Text → Option Text → Option Command
server_if word file port count =
    if bytes_eq word (codes "region") then Some (Region file port count) else (if bytes_eq word (codes "gateway") then Some (Gateway file port count) else None)

-- the same, where the file is no option
abbrev pub server_of : Text → Text → Text → Option Text → Option Command
server_of word file port count = if is_option file then None else server_if word file port count

-- three words: `ask`, a host and a port; or a server, its file and its port
abbrev pub three_words : Text → Text → Text → Option Command
three_words word first port = if bytes_eq word (codes "ask") then Some (Ask first port) else server_of word first port None

-- five words: a server, its file and its port, and then `--count` and a number
abbrev pub five_words : Text → Text → Text → Text → Text → Option Command
five_words word file port option count = if bytes_eq option (codes "--count") then server_of word file port (Some count) else None

-- the command of the words, if they are of the form of one
abbrev pub command_of : List Text → Option Command
command_of [] = None
command_of (word ∷ []) = None
command_of (word ∷ first ∷ []) = None
command_of (word ∷ first ∷ port ∷ []) = three_words word first port
command_of (word ∷ file ∷ port ∷ option ∷ []) = None
command_of (word ∷ file ∷ port ∷ option ∷ count ∷ []) = five_words word file port option count
command_of (word ∷ file ∷ port ∷ option ∷ count ∷ sixth ∷ more) = None

-- the command of the words, as their bytes
abbrev pub named_by : List (String Global) → Option Command
named_by words = command_of (map (λ word. string_bytes word) words)

-- ---- numbers and hosts

-- the word is a number from 1 to 4,294,967,295
pub record IsNumber (word : Text) (number : ℕ) : Type 0 where
  pub low : 1 ≤ number
  pub high : number < 2 ^ 32
  pub spelled : decimal number ≡ word

-- the word is a port from 1 to 65,535
abbrev pub IsPort : Text → ℕ → Type 0
IsPort word port = IsPortNumber port × (decimal port ≡ word)

-- the number of connections, where there is a word for it
abbrev pub IsCount : Option Text → Option ℕ → Type 0
IsCount None None = Unit {0}
IsCount None (Some number) = ⊥
IsCount (Some word) None = ⊥
IsCount (Some word) (Some number) = IsNumber word number

-- the words name these numbers: a port, and how many connections where they say so
abbrev pub AreNumbers : Text → Option Text → ℕ → Option ℕ → Type 0
AreNumbers port_word count_word port count = IsPort port_word port × IsCount count_word count

-- the words are a host and this port
abbrev pub IsAddress : Text → Text → ℕ → Type 0
IsAddress host port_word port = IsTrue (is_host host) × IsPort port_word port
