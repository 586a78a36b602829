-- Words and options.
use Rattle.std.proofs.Common.{◌≡◌, ◌⊎◌, ℕ, ◌<◌, ◌^◌, Bool, true, false, cond, List, [], ◌∷◌, ◌++◌, Option, Some, None, inl, inr, sym, ap, subst, ◌∙◌, refl, arith, IsTrue}
use Rattle.std.specs.declared.alloc.Global.{Global}
use Rattle.std.specs.Fmt.{decimal}
use Rattle.std.specs.Prelude.{String, MatchOption, codes, bytes_eq, length, option_and_then, slice_get, string_bytes}
use Rattle.std.specs.List.{flat_map}
use Rattle.std.proofs.lemmas.Bool.{both_ways, cases_Bool}
use Rattle.std.proofs.lemmas.Fmt.{decimal_injective}
use Rattle.std.proofs.lemmas.Option.{none-some, same_Some}
use Rattle.std.proofs.lemmas.Slice.Eq.{bytes_eq-Decides}
use Rattle.ojp_values.specs.Limits.{IsChange}
use Rattle.ojp_values.specs.Texts.{Text, is_code}
use Rattle.ojp_values.specs.declared.moments.TheConstants.{FIRST_DAY, LAST_DAY}
use Rattle.ojp_values.proofs.Calendar.{day_text_injective}
use Rattle.ojp_feed_rows.specs.declared.settings.Window.{Window}
use Rattle.ojp_gtfs_cli.specs.Meanings.{wanted_by}
use Rattle.ojp_gtfs_cli.specs.declared.words.Words.{Words}
use Rattle.ojp_gtfs_cli.specs.Words.{AreNoOptions, AreOptions, AskFor, AskForNothing, Chosen, IsChangeOf, IsDay, IsWindow, SayJust, SaysAs, StandsBehind, Wish, is_folder, is_option, no_options, texts_of, value_words, wish_words, with_all, with_flag, with_other_value, with_value, with_valued}

-- ---- an option without a value has none

both_same : {A : Type 0} (x : A) (b : Bool) → cond b x x ≡ x
both_same x true = refl
both_same x false = refl

as_open_alone : (chosen : Chosen) (value : Text) → with_value chosen (codes "--as-open") value ≡ None
unfolding with_value with_other_value
as_open_alone chosen value = both_same {A = Option Chosen} None (is_option value)

strict_alone : (chosen : Chosen) (value : Text) → with_value chosen (codes "--strict") value ≡ None
unfolding with_value with_other_value
strict_alone chosen value = both_same {A = Option Chosen} None (is_option value)

no_flag : (chosen : Chosen) (option : Text) → bytes_eq option (codes "--as-open") ≡ false → bytes_eq option (codes "--strict") ≡ false → with_flag chosen option ≡ None
unfolding with_flag
no_flag chosen option as_open strict = rw (as_open, strict) refl

flag_named : (chosen more : Chosen) (option : Text) → with_flag chosen option ≡ Some more → (option ≡ codes "--as-open") ⊎ (option ≡ codes "--strict")
flag_named chosen more option is =
    elim (cases_Bool (bytes_eq option (codes "--as-open"))) [
      | inl as_open ↦ inl ((bytes_eq-Decides option (codes "--as-open")).0 as_open)
      | inr as_open ↦ elim (cases_Bool (bytes_eq option (codes "--strict"))) [
        | inl strict ↦ inr ((bytes_eq-Decides option (codes "--strict")).0 strict)
        | inr strict ↦ absurd (none-some more (sym (no_flag chosen option as_open strict) ∙ is))
      ]
    ]

flag_alone : (chosen more : Chosen) (option value : Text) → with_flag chosen option ≡ Some more → with_value chosen option value ≡ None
flag_alone chosen more option value is =
    elim (flag_named chosen more option is) [
      | inl as_open ↦ ap (λ (name : Text). with_value chosen name value) as_open ∙ as_open_alone chosen value
      | inr strict ↦ ap (λ (name : Text). with_value chosen name value) strict ∙ strict_alone chosen value
    ]

-- ---- the first option of the words

-- what is left behind the first option, which has no value
flag_left : (before more after : Chosen) (option : Text) (behind : List Text) → with_flag before option ≡ Some more
    → (name : Text) (value : Option Text) (wishes : List Wish) → (name ∷ value_words value) ++ flat_map wish_words wishes ≡ option ∷ behind
    → option_and_then (λ (c : Chosen). with_all c wishes) (with_valued before name value) ≡ Some after → AreOptions more behind after
flag_left before more after option behind is name None wishes spelled taken =
    let words : name ∷ flat_map wish_words wishes ≡ option ∷ behind = spelled in
    let named : name ≡ option = cc in
    let left : flat_map wish_words wishes ≡ behind = cc in
    let said : with_flag before name ≡ Some more = ap (with_flag before) named ∙ is in
    record { wishes = wishes; spelled = left; taken = sym (ap (option_and_then (λ (c : Chosen). with_all c wishes)) said) ∙ taken }
flag_left before more after option behind is name (Some value) wishes spelled taken =
    let words : name ∷ value ∷ flat_map wish_words wishes ≡ option ∷ behind = spelled in
    let named : name ≡ option = cc in
    let none : with_value before name value ≡ None = ap (λ (n : Text). with_value before n value) named ∙ flag_alone before more option value is in
    absurd (none-some after (sym (ap (option_and_then (λ (c : Chosen). with_all c wishes)) none) ∙ taken))

flag_left_in : (before more after : Chosen) (option : Text) (behind : List Text) → with_flag before option ≡ Some more
    → (wishes : List Wish) → flat_map wish_words wishes ≡ option ∷ behind → with_all before wishes ≡ Some after → AreOptions more behind after
flag_left_in before more after option behind is [] spelled taken = let never : ⊥ = cc in absurd never
flag_left_in before more after option behind is (wish ∷ wishes) spelled taken = flag_left before more after option behind is wish.option wish.value wishes spelled taken

pub says_flag : (before more : Chosen) (option : Text) (behind : List Text) → with_flag before option ≡ Some more → SaysAs before (option ∷ behind) more behind
says_flag before more option behind is after = (
  λ said.
      let wish : Wish = record { option = option; value = None } in
      record {
        wishes = wish ∷ said.wishes;
        spelled = ap (λ (words : List Text). option ∷ words) said.spelled;
        taken = ap (option_and_then (λ (c : Chosen). with_all c said.wishes)) is ∙ said.taken;
      },
  λ said. flag_left_in before more after option behind is said.wishes said.spelled said.taken,
)

-- the same of an option that has a value
value_left : (before more after : Chosen) (option given : Text) (behind : List Text) → with_flag before option ≡ None → with_value before option given ≡ Some more
    → (name : Text) (value : Option Text) (wishes : List Wish) → (name ∷ value_words value) ++ flat_map wish_words wishes ≡ option ∷ given ∷ behind
    → option_and_then (λ (c : Chosen). with_all c wishes) (with_valued before name value) ≡ Some after → AreOptions more behind after
value_left before more after option given behind unset is name None wishes spelled taken =
    let words : name ∷ flat_map wish_words wishes ≡ option ∷ given ∷ behind = spelled in
    let named : name ≡ option = cc in
    let none : with_flag before name ≡ None = ap (with_flag before) named ∙ unset in
    absurd (none-some after (sym (ap (option_and_then (λ (c : Chosen). with_all c wishes)) none) ∙ taken))
value_left before more after option given behind unset is name (Some value) wishes spelled taken =
    let words : name ∷ value ∷ flat_map wish_words wishes ≡ option ∷ given ∷ behind = spelled in
    let named : name ≡ option = cc in
    let valued : value ≡ given = cc in
    let left : flat_map wish_words wishes ≡ behind = cc in
    let said : with_value before name value ≡ Some more = ap (λ (n : Text). with_value before n value) named ∙ (ap (with_value before option) valued ∙ is) in
    record { wishes = wishes; spelled = left; taken = sym (ap (option_and_then (λ (c : Chosen). with_all c wishes)) said) ∙ taken }

value_left_in : (before more after : Chosen) (option given : Text) (behind : List Text) → with_flag before option ≡ None → with_value before option given ≡ Some more
    → (wishes : List Wish) → flat_map wish_words wishes ≡ option ∷ given ∷ behind → with_all before wishes ≡ Some after → AreOptions more behind after
value_left_in before more after option given behind unset is [] spelled taken = let never : ⊥ = cc in absurd never
value_left_in before more after option given behind unset is (wish ∷ wishes) spelled taken = value_left before more after option given behind unset is wish.option wish.value wishes spelled taken

pub says_value : (before more : Chosen) (option given : Text) (behind : List Text) → with_flag before option ≡ None → with_value before option given ≡ Some more
    → SaysAs before (option ∷ given ∷ behind) more behind
says_value before more option given behind unset is after = (
  λ said.
      let wish : Wish = record { option = option; value = Some given } in
      record {
        wishes = wish ∷ said.wishes;
        spelled = ap (λ (words : List Text). option ∷ given ∷ words) said.spelled;
        taken = ap (option_and_then (λ (c : Chosen). with_all c said.wishes)) is ∙ said.taken;
      },
  λ said. value_left_in before more after option given behind unset is said.wishes said.spelled said.taken,
)

-- an option that has no value stands last
last_option : (before after : Chosen) (option : Text) → with_flag before option ≡ None → (name : Text) (value : Option Text) (wishes : List Wish)
    → (name ∷ value_words value) ++ flat_map wish_words wishes ≡ option ∷ [] → option_and_then (λ (c : Chosen). with_all c wishes) (with_valued before name value) ≡ Some after → ⊥
last_option before after option unset name None wishes spelled taken =
    let words : name ∷ flat_map wish_words wishes ≡ option ∷ [] = spelled in
    let named : name ≡ option = cc in
    let none : with_flag before name ≡ None = ap (with_flag before) named ∙ unset in
    none-some after (sym (ap (option_and_then (λ (c : Chosen). with_all c wishes)) none) ∙ taken)
last_option before after option unset name (Some value) wishes spelled taken =
    let words : name ∷ value ∷ flat_map wish_words wishes ≡ option ∷ [] = spelled in
    cc

last_option_in : (before after : Chosen) (option : Text) → with_flag before option ≡ None → (wishes : List Wish)
    → flat_map wish_words wishes ≡ option ∷ [] → with_all before wishes ≡ Some after → ⊥
last_option_in before after option unset [] spelled taken = cc
last_option_in before after option unset (wish ∷ wishes) spelled taken = last_option before after option unset wish.option wish.value wishes spelled taken

pub says_none_last : (before : Chosen) (option : Text) → with_flag before option ≡ None → AreNoOptions before (option ∷ [])
says_none_last before option unset after said = last_option_in before after option unset said.wishes said.spelled said.taken

-- an option is not taken with its value
bad_option : (before after : Chosen) (option given : Text) (behind : List Text) → with_flag before option ≡ None → with_value before option given ≡ None
    → (name : Text) (value : Option Text) (wishes : List Wish) → (name ∷ value_words value) ++ flat_map wish_words wishes ≡ option ∷ given ∷ behind
    → option_and_then (λ (c : Chosen). with_all c wishes) (with_valued before name value) ≡ Some after → ⊥
bad_option before after option given behind unset bad name None wishes spelled taken =
    let words : name ∷ flat_map wish_words wishes ≡ option ∷ given ∷ behind = spelled in
    let named : name ≡ option = cc in
    let none : with_flag before name ≡ None = ap (with_flag before) named ∙ unset in
    none-some after (sym (ap (option_and_then (λ (c : Chosen). with_all c wishes)) none) ∙ taken)
bad_option before after option given behind unset bad name (Some value) wishes spelled taken =
    let words : name ∷ value ∷ flat_map wish_words wishes ≡ option ∷ given ∷ behind = spelled in
    let named : name ≡ option = cc in
    let valued : value ≡ given = cc in
    let none : with_value before name value ≡ None = ap (λ (n : Text). with_value before n value) named ∙ (ap (with_value before option) valued ∙ bad) in
    none-some after (sym (ap (option_and_then (λ (c : Chosen). with_all c wishes)) none) ∙ taken)

bad_option_in : (before after : Chosen) (option given : Text) (behind : List Text) → with_flag before option ≡ None → with_value before option given ≡ None
    → (wishes : List Wish) → flat_map wish_words wishes ≡ option ∷ given ∷ behind → with_all before wishes ≡ Some after → ⊥
bad_option_in before after option given behind unset bad [] spelled taken = cc
bad_option_in before after option given behind unset bad (wish ∷ wishes) spelled taken = bad_option before after option given behind unset bad wish.option wish.value wishes spelled taken

pub says_none : (before : Chosen) (option given : Text) (behind : List Text) → with_flag before option ≡ None → with_value before option given ≡ None → AreNoOptions before (option ∷ given ∷ behind)
says_none before option given behind unset bad after said = bad_option_in before after option given behind unset bad said.wishes said.spelled said.taken

-- ---- all options

pub says_self : (before : Chosen) (words : List Text) → SaysAs before words before words
says_self before words after = (λ said. said, λ said. said)

pub says_on : (a b c : Chosen) (xs ys zs : List Text) → SaysAs a xs b ys → SaysAs b ys c zs → SaysAs a xs c zs
says_on a b c xs ys zs first second after = (λ said. (first after).0 ((second after).0 said), λ said. (second after).1 ((first after).1 said))

pub says_none_on : (a b : Chosen) (xs ys : List Text) → SaysAs a xs b ys → AreNoOptions b ys → AreNoOptions a xs
says_none_on a b xs ys says none after said = none after ((says after).1 said)

nothing_left : (before after : Chosen) (wishes : List Wish) → flat_map wish_words wishes ≡ [] → with_all before wishes ≡ Some after → after ≡ before
nothing_left before after [] spelled taken =
    let same : Some before ≡ Some after = taken in
    cc
nothing_left before after (wish ∷ wishes) spelled taken = let never : ⊥ = cc in absurd never

pub says_just : (words : List Text) (chosen : Chosen) → SaysAs no_options words chosen [] → SayJust words chosen
says_just words chosen says = record {
  is = (says chosen).0 (record { wishes = []; spelled = refl; taken = refl });
  only = λ other said.
      let left = (says other).1 said in
      nothing_left chosen other left.wishes left.spelled left.taken;
}

-- ---- days and seconds

one_day : (word : Option Text) (missing a b : ℕ) → IsDay word missing a → IsDay word missing b → a ≡ b
one_day None missing a b first second = first ∙ sym second
one_day (Some word) missing a b first second = day_text_injective a b (omega (arith, first.0.1)) (omega (arith, second.0.1)) (first.1 ∙ sym second.1)

-- a window that ends before it begins
pub no_window : (from to : Option Text) (first last : ℕ) → IsDay from FIRST_DAY first → IsDay to LAST_DAY last → last < first → (days : Window) → IsWindow from to days → ⊥
no_window from to first last is_first is_last ends days is =
    let one = one_day from FIRST_DAY days.first first is.first is_first in
    let other = one_day to LAST_DAY days.last last is.last is_last in
    omega (arith, ends, one, other, is.ordered)

-- a number that a word spells is no change
pub no_change : (word : Text) (number seconds : ℕ) → number < 2 ^ 32 → decimal number ≡ word → (IsChange number → ⊥) → IsChange seconds → decimal seconds ≡ word → ⊥
no_change word number seconds below spelled none is as_change =
    let same : seconds ≡ number = decimal_injective seconds number (omega (arith, is.1)) (omega (arith, below)) (as_change ∙ sym spelled) in
    none (subst IsChange same is)

-- ---- words that ask for nothing

pub no_words : (words : List (String Global)) → length words ≡ 0 → AskForNothing (texts_of words)
no_words [] none wanted asks = asks
no_words (word ∷ words) none wanted asks = absurd (omega (arith, none))

pub one_word : (words behind : List (String Global)) (folder : String Global) → words ≡ folder ∷ behind → length behind ≡ 0 → AskForNothing (texts_of words)
one_word words [] folder is none = subst (λ (all : List (String Global)). AskForNothing (texts_of all)) (sym is) (λ wanted asks. asks)
one_word words (code ∷ rest) folder is none = absurd (omega (arith, none))

-- the texts of words whose first is this
pub first_words : (words behind : List (String Global)) (first : String Global) (text : Text) → words ≡ first ∷ behind → text ≡ string_bytes first
    → text ∷ texts_of behind ≡ texts_of words
first_words words behind first text is text_is = ap (λ (t : Text). t ∷ texts_of behind) text_is ∙ sym (ap texts_of is)

-- the word behind an option
pub stands_first : (option word : Text) (behind : List (String Global)) (file : String Global) → option ≡ codes "--against" → Some file ≡ slice_get behind 0 → word ≡ string_bytes file
    → StandsBehind (option ∷ texts_of behind) (codes "--against") word
stands_first option word [] file is at word_is = let never : ⊥ = none-some file (sym at) in absurd never
stands_first option word (first ∷ rest) file is at word_is =
    let same : word ≡ string_bytes first = word_is ∙ ap (λ (s : String Global). string_bytes s) (same_Some file first at) in
    record { front = []; back = texts_of rest; joined = ap (λ (o : Text). o ∷ string_bytes first ∷ texts_of rest) is ∙ ap (λ (w : Text). codes "--against" ∷ w ∷ texts_of rest) (sym same) }

pub no_texts : (words : List (String Global)) → length words ≡ 0 → texts_of words ≡ []
no_texts [] none = refl
no_texts (word ∷ words) none = absurd (omega (arith, none))

-- words whose first two are these
pub read_as : (words behind rest : List (String Global)) (folder code : String Global) (first second : Text) (result : Option Words) → words ≡ folder ∷ behind → behind ≡ code ∷ rest
    → first ≡ string_bytes folder → second ≡ string_bytes code
    → MatchOption result (AskForNothing (first ∷ second ∷ texts_of rest)) (λ read. AskFor (first ∷ second ∷ texts_of rest) (wanted_by read))
    → MatchOption result (AskForNothing (texts_of words)) (λ read. AskFor (texts_of words) (wanted_by read))
read_as words behind rest folder code first second result is behind_is first_is second_is =
    let all : texts_of words ≡ string_bytes folder ∷ string_bytes code ∷ texts_of rest = ap texts_of is ∙ ap (λ (b : List (String Global)). string_bytes folder ∷ texts_of b) behind_is in
    let same : first ∷ second ∷ texts_of rest ≡ texts_of words
    = ap (λ (f : Text). f ∷ second ∷ texts_of rest) first_is ∙ (ap (λ (s : Text). string_bytes folder ∷ s ∷ texts_of rest) second_is ∙ sym all) in
    subst (λ (texts : List Text). MatchOption result (AskForNothing texts) (λ read. AskFor texts (wanted_by read))) same

pub no_folder : (folder code : Text) (options : List Text) → is_folder folder ≡ false → AskForNothing (folder ∷ code ∷ options)
no_folder folder code options lacks wanted asks = both_ways (is_folder folder) lacks asks.folder_is

pub no_code : (folder code : Text) (options : List Text) → (IsTrue (is_code code) → ⊥) → AskForNothing (folder ∷ code ∷ options)
no_code folder code options lacks wanted asks = lacks asks.code_is

pub no_options_said : (folder code : Text) (options : List Text) → AreNoOptions no_options options → AskForNothing (folder ∷ code ∷ options)
no_options_said folder code options lacks wanted asks = lacks wanted.chosen asks.chosen

pub no_window_said : (folder code : Text) (options : List Text) (chosen : Chosen) → SayJust options chosen
    → ((days : Window) → IsWindow chosen.from chosen.to days → ⊥) → AskForNothing (folder ∷ code ∷ options)
no_window_said folder code options chosen just lacks wanted asks =
    lacks wanted.window (subst (λ (c : Chosen). IsWindow c.from c.to wanted.window) (just.only wanted.chosen asks.chosen) asks.window)

pub no_change_said : (folder code : Text) (options : List Text) (chosen : Chosen) → SayJust options chosen
    → ((seconds : ℕ) → IsChangeOf chosen.change 60 seconds → ⊥) → AskForNothing (folder ∷ code ∷ options)
no_change_said folder code options chosen just lacks wanted asks =
    lacks wanted.change (subst (λ (c : Chosen). IsChangeOf c.change 60 wanted.change) (just.only wanted.chosen asks.chosen) asks.change)

pub no_station_change_said : (folder code : Text) (options : List Text) (chosen : Chosen) → SayJust options chosen
    → ((seconds : ℕ) → IsChangeOf chosen.station_change 180 seconds → ⊥) → AskForNothing (folder ∷ code ∷ options)
no_station_change_said folder code options chosen just lacks wanted asks =
    lacks wanted.station_change (subst (λ (c : Chosen). IsChangeOf c.station_change 180 wanted.station_change) (just.only wanted.chosen asks.chosen) asks.station_change)
