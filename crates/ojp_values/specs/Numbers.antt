-- Numbers as texts.
use Rattle.std.specs.Prelude.{◌≡◌, ◌≢◌, ℕ, ◌+◌, ◌-◌, ◌*◌, Bool, ◌&&◌, ◌||◌, ◌==◌, not, length, slice_index, fold, List, [], ◌∷◌, ◌++◌, Option, MatchOption}
use Rattle.std.specs.List.{list_all}
use Rattle.std.specs.Char.{is_ascii_digit}
use Rattle.std.specs.Fmt.{decimal}
use Rattle.ojp_values.specs.Texts.{Text}

-- the value that the bytes spell is found, and none is where they spell none
abbrev pub Reads : {A : Type 0} → (A → Type 0) → (A → List ℕ) → List ℕ → Option A → Type 0
Reads {A} IsValue text_of bytes found =
    MatchOption found ((value : A) → IsValue value → text_of value ≢ bytes)
    (λ value. IsValue value × (text_of value ≡ bytes))

-- a duration of n seconds is spelled `PTnS`
abbrev pub duration_text : ℕ → List ℕ
duration_text n = 80 ∷ 84 ∷ decimal n ++ 83 ∷ []

-- the number with one more digit
abbrev pub with_digit : ℕ → ℕ → ℕ
with_digit number digit = 10 * number + (digit - 48)

-- the number that the digits write
unfoldable pub number : Text → ℕ
number text = fold with_digit 0 text

-- one digit or more
abbrev pub are_digits : Text → Bool
are_digits text = not (length text == 0) && list_all is_ascii_digit text

-- digits, of which the first of several is not 0
abbrev pub is_plain : Text → Bool
is_plain text = are_digits text && (length text == 1 || not (slice_index text 0 == 48))
