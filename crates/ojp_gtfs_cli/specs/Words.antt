-- The words of the command line, and what they ask for.
use Rattle.std.specs.declared.alloc.Global.{Global}
use Rattle.std.specs.Fmt.{decimal}
use Rattle.std.specs.Prelude.{◌≡◌, ◌≤◌, ℕ, Bool, true, false, IsTrue, ◌&&◌, ◌==◌, not, String, string_bytes, map, length, List, [], ◌∷◌, ◌++◌, Option, Some, None, codes, nat_eq, bytes_eq, is_none, option_and_then, if◌then◌else◌}
use Rattle.std.specs.List.{flat_map, starts_with}
use Rattle.ojp_values.specs.Dates.{day_text}
use Rattle.ojp_values.specs.Limits.{IsChange}
use Rattle.ojp_values.specs.Texts.{Text, is_code}
use Rattle.ojp_values.specs.declared.moments.TheConstants.{FIRST_DAY, LAST_DAY}
use Rattle.ojp_feed_rows.specs.declared.settings.Window.{Window}

-- ---- options

-- what options say: the values of those that have one, and which of the others are there
pub record Chosen : Type 0 where
  pub from : Option Text
  pub to : Option Text
  pub zone : Option Text
  pub exchange : Option Text
  pub change : Option Text
  pub station_change : Option Text
  pub as_open : Bool
  pub strict : Bool

-- no option says this
abbrev pub no_options : Chosen
no_options = record {
  from = None;
  to = None;
  zone = None;
  exchange = None;
  change = None;
  station_change = None;
  as_open = false;
  strict = false;
}

-- the word is an option: it begins with two hyphens
abbrev pub is_option : Text → Bool
is_option word = starts_with nat_eq word (codes "--")

-- the option has this name, and has no value yet
abbrev pub is_free : Text → Text → Option Text → Bool
is_free option name value = bytes_eq option name && is_none value

-- the option has this name, and is not there yet
abbrev pub is_unset : Text → Text → Bool → Bool
is_unset option name set = bytes_eq option name && not set

-- with an option that has no value, each at most once
unfoldable pub with_flag : Chosen → Text → Option Chosen
with_flag chosen option =
    if is_unset option (codes "--as-open") chosen.as_open then Some (record chosen { as_open = true })
    else if is_unset option (codes "--strict") chosen.strict then Some (record chosen { strict = true }) else None

-- with the operator's file or a change, each at most once
unfoldable pub with_other_value : Chosen → Text → Text → Option Chosen
with_other_value chosen option value =
    if is_free option (codes "--exchange") chosen.exchange then Some (record chosen { exchange = Some value })
    else if is_free option (codes "--change") chosen.change then Some (record chosen { change = Some value })
    else if is_free option (codes "--station-change") chosen.station_change then Some (record chosen { station_change = Some value }) else None

-- with an option and its value, which is no option: each at most once but `--against`
unfoldable pub with_value : Chosen → Text → Text → Option Chosen
with_value chosen option value =
    if is_option value then None
    else if is_free option (codes "--from") chosen.from then Some (record chosen { from = Some value })
    else if is_free option (codes "--to") chosen.to then Some (record chosen { to = Some value })
    else if is_free option (codes "--zone") chosen.zone then Some (record chosen { zone = Some value })
    else if bytes_eq option (codes "--against") then Some chosen else with_other_value chosen option value

-- an option, with its value where it has one
pub record Wish : Type 0 where
  pub option : Text
  pub value : Option Text

abbrev pub value_words : Option Text → List Text
value_words None = []
value_words (Some value) = value ∷ []

-- the words of an option
abbrev pub wish_words : Wish → List Text
wish_words wish = wish.option ∷ value_words wish.value

abbrev pub with_valued : Chosen → Text → Option Text → Option Chosen
with_valued chosen option None = with_flag chosen option
with_valued chosen option (Some value) = with_value chosen option value

-- with these options, one behind the other
abbrev pub with_all : Chosen → List Wish → Option Chosen
with_all chosen [] = Some chosen
with_all chosen (wish ∷ wishes) = option_and_then (λ more. with_all more wishes) (with_valued chosen wish.option wish.value)

-- the words are options, one behind the other, which said with the one make the other
pub record AreOptions (before : Chosen) (words : List Text) (after : Chosen) : Type 0 where
  pub wishes : List Wish
  pub spelled : flat_map wish_words wishes ≡ words
  pub taken : with_all before wishes ≡ Some after

-- the words are no options that can be said with these
abbrev pub AreNoOptions : Chosen → List Text → Type 0
AreNoOptions before words = (after : Chosen) → AreOptions before words after → ⊥

-- the words say with the one just what the other words say with the other
abbrev pub SaysAs : Chosen → List Text → Chosen → List Text → Type 0
SaysAs before words then_before then_words =
    (after : Chosen) → (AreOptions then_before then_words after → AreOptions before words after) × (AreOptions before words after → AreOptions then_before then_words after)

-- the words are options that say this and nothing else
pub record SayJust (words : List Text) (chosen : Chosen) : Type 0 where
  pub is : AreOptions no_options words chosen
  pub only : (other : Chosen) → AreOptions no_options words other → other ≡ chosen

-- this word stands behind this option
pub record StandsBehind (words : List Text) (option word : Text) : Type 0 where
  pub front : List Text
  pub back : List Text
  pub joined : words ≡ front ++ option ∷ word ∷ back

-- ---- values

-- the operating day that the word writes, and this one where there is none
abbrev pub IsDay : Option Text → ℕ → ℕ → Type 0
IsDay None missing day = day ≡ missing
IsDay (Some word) missing day = ((FIRST_DAY ≤ day) × (day ≤ LAST_DAY)) × (day_text day ≡ word)

-- the days from the one word to the other, and where one is missing as far as operating days go
pub record IsWindow (from to : Option Text) (window : Window) : Type 0 where
  pub first : IsDay from FIRST_DAY window.first
  pub last : IsDay to LAST_DAY window.last
  pub ordered : window.first ≤ window.last

-- the seconds of a change that the word writes, and these where there is none
abbrev pub IsChangeOf : Option Text → ℕ → ℕ → Type 0
IsChangeOf None missing seconds = seconds ≡ missing
IsChangeOf (Some word) missing seconds = IsChange seconds × (decimal seconds ≡ word)

-- the word may name a folder: there is one, and it is no option
abbrev pub is_folder : Text → Bool
is_folder word = not (is_option word) && not (length word == 0)

-- ---- all words

-- what is asked for: a region and its window, the seconds of changes, and the options, as words and by what they say
pub record Wanted : Type 0 where
  pub code : Text
  pub window : Window
  pub change : ℕ
  pub station_change : ℕ
  pub options : List Text
  pub chosen : Chosen

-- a folder, a code and options ask for this
pub record AsksFor (folder code : Text) (options : List Text) (wanted : Wanted) : Type 0 where
  pub folder_is : IsTrue (is_folder folder)
  pub code_is : IsTrue (is_code code)
  pub code_same : wanted.code ≡ code
  pub options_same : wanted.options ≡ options
  pub chosen : AreOptions no_options options wanted.chosen
  pub window : IsWindow wanted.chosen.from wanted.chosen.to wanted.window
  pub change : IsChangeOf wanted.chosen.change 60 wanted.change
  pub station_change : IsChangeOf wanted.chosen.station_change 180 wanted.station_change

-- the words ask for this: they are a folder and a code, and then options
abbrev pub AskFor : List Text → Wanted → Type 0
AskFor [] wanted = ⊥
AskFor (folder ∷ []) wanted = ⊥
AskFor (folder ∷ code ∷ options) wanted = AsksFor folder code options wanted

-- the words are none that ask for something
abbrev pub AskForNothing : List Text → Type 0
AskForNothing words = (wanted : Wanted) → AskFor words wanted → ⊥

-- the words as their bytes
abbrev pub texts_of : List (String Global) → List Text
texts_of words = map (λ word. string_bytes word) words
