-- The words of a command line, and the command that they name.
use Rattle.std.specs.declared.alloc.Global.{Global}
use Rattle.std.specs.Fmt.{decimal}
use Rattle.std.specs.Prelude.{◌≡◌, ◌≤◌, ◌<◌, ◌^◌, ℕ, Bool, true, false, String, string_bytes, map, length, List, [], ◌∷◌, Option, Some, None, codes, nat_lt, bytes_eq, if◌then◌else◌}
use Rattle.ojp_values.specs.Texts.{Text}
use Rattle.ojp_online.specs.Words.{is_option}

-- a command: `plan` with the word of its order, where it has one, whether it tells its trace, and its timetable files; `check`; or
-- `load` with the word of its number
pub data Command : Type 0 where
  Plan : Option Text → Bool → List Text → Command
  Check : Command
  Load : Text → Command

-- ---- `plan [--order N] [--trace] FILE..`, the options in either order

-- 1 to 32 files, the first of which is no option
abbrev pub plan_of : Option Text → Bool → List Text → Option Command
plan_of order traces [] = None
plan_of order traces (file ∷ more) = if is_option file then None else if nat_lt 31 (length more) then None else Some (Plan order traces (file ∷ more))

-- the order, and then the files
abbrev pub traced_words : List Text → Option Command
traced_words [] = None
traced_words (order ∷ files) = plan_of (Some order) true files

-- behind `--trace`: the files, or first `--order` with the order
abbrev pub trace_words : List Text → Option Command
trace_words [] = None
trace_words (word ∷ words) = if bytes_eq word (codes "--order") then traced_words words else plan_of None true (word ∷ words)

-- behind an order: the files, or first `--trace`
abbrev pub behind_order : Text → List Text → Option Command
behind_order order [] = None
behind_order order (word ∷ words) = if bytes_eq word (codes "--trace") then plan_of (Some order) true words else plan_of (Some order) false (word ∷ words)

-- behind `--order`: the order, and what stands behind it
abbrev pub order_words : List Text → Option Command
order_words [] = None
order_words (order ∷ words) = behind_order order words

-- what stands behind `plan`
abbrev pub plan_words : List Text → Option Command
plan_words [] = None
plan_words (word ∷ words) =
    if bytes_eq word (codes "--order") then order_words words
    else if bytes_eq word (codes "--trace") then trace_words words else plan_of None false (word ∷ words)

-- ---- `check`

-- one word: `check`
abbrev pub one_word : Text → Option Command
one_word word = if bytes_eq word (codes "check") then Some Check else None

-- ---- `load NUMBER`

-- two words: `load` and a number
abbrev pub two_words : Text → Text → Option Command
two_words word number = if bytes_eq word (codes "load") then Some (Load number) else None

-- a word that is not `plan`, and those behind it
abbrev pub other_words : Text → List Text → Option Command
other_words word [] = one_word word
other_words word (second ∷ []) = two_words word second
other_words word (second ∷ third ∷ more) = None

-- ---- all words

-- the command of the words, if they are of the form of one
abbrev pub command_of : List Text → Option Command
command_of [] = None
command_of (word ∷ words) = if bytes_eq word (codes "plan") then plan_words words else other_words word words

-- the order in which replies become ready: from 0 to 10, and 0 where there is no word for it
abbrev pub IsOrder : Option Text → ℕ → Type 0
IsOrder None order = order ≡ 0
IsOrder (Some word) order = (order ≤ 10) × (decimal order ≡ word)

-- the number of a network: from 0 to 4,294,967,295
abbrev pub IsNumber : Text → ℕ → Type 0
IsNumber word number = (number < 2 ^ 32) × (decimal number ≡ word)

-- the words as their bytes
abbrev pub texts_of : List (String Global) → List Text
texts_of words = map (λ word. string_bytes word) words

-- the command of the words
abbrev pub named_by : List (String Global) → Option Command
named_by words = command_of (texts_of words)
