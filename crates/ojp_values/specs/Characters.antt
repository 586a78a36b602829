-- What the tests on the bytes of a name mean for its characters.
use Rattle.std.specs.Prelude.{◌≡◌, ℕ, Bool, ◌||◌, ◌==◌, nat_le, List}
use Rattle.std.specs.List.{list_all, list_any}
use Rattle.std.specs.Str.{encode_utf8_all}
use Rattle.ojp_values.specs.Texts.{is_name_byte, has_noncharacter}

-- the character is U+FFFE or U+FFFF
abbrev pub is_noncharacter : ℕ → Bool
is_noncharacter c = c == 0xfffe || c == 0xffff

-- no byte of a text is below 32 just where no character is below U+0020
abbrev pub ControlsAreBytes : Type 0
ControlsAreBytes =
    (characters : List ℕ) → list_all is_name_byte (encode_utf8_all characters) ≡ list_all (λ c. nat_le 32 c) characters

-- the bytes hold the spelling of U+FFFE or U+FFFF just where one of the characters is one of them
abbrev pub NoncharactersAreBytes : Type 0
NoncharactersAreBytes =
    (characters : List ℕ) → has_noncharacter (encode_utf8_all characters) ≡ list_any is_noncharacter characters
