-- Texts that are one word, and texts without line feeds.
use Rattle.std.proofs.Common.{◌≡◌, ◌⊎◌, inl, inr, ℕ, ◌+◌, ◌/◌, ◌%◌, ◌<◌, ◌≤◌, ◌^◌, Bool, true, false, not, ◌||◌, ◌==◌, IsTrue, List, [], ◌∷◌, ◌++◌, refl, ◌∙◌, ap, arith}
use Rattle.std.specs.List.{list_all}
use Rattle.std.specs.Char.{is_ascii_digit}
use Rattle.std.specs.Fmt.{decimal}
use Rattle.std.proofs.lemmas.Bool.{and_from, eqb-true, leb-true}
use Rattle.std.proofs.lemmas.List.Folds.{list_all-append}
use Rattle.ojp_values.specs.Dates.{date_of, date_text, day_text, four, two}
use Rattle.ojp_values.specs.declared.dates.CalendarDate.{CalendarDate}
use Rattle.ojp_values.specs.Texts.{Text, is_code, is_code_byte, is_label, is_local_byte, is_name, is_name_byte, is_stop_ref, is_between}
use Rattle.ojp_values.proofs.Escapes.{and_true_left, and_true_right}
use Rattle.ojp_values.proofs.StopParts.{stops_have_parts}
use Rattle.ojp_values.proofs.Numerals.{plain_of}
use Rattle.ojp_lines.specs.Lines.{marks_text}
use Rattle.ojp_texts.specs.Spelled.{is_word, is_word_byte}

-- every byte passes where a weaker test is asked
pub all_weaker : (p q : ℕ → Bool) → ((b : ℕ) → p b ≡ true → q b ≡ true) → (text : Text) → list_all p text ≡ true → list_all q text ≡ true
all_weaker p q f [] h = refl
all_weaker p q f (b ∷ text) h = and_from _ _ (f b (and_true_left _ _ h)) (all_weaker p q f text (and_true_right _ _ h))

-- ---- words

abbrev pub IsWord : Text → Type 0
IsWord text = is_word text ≡ true

pub word_append : (x y : Text) → IsWord x → IsWord y → IsWord (x ++ y)
word_append x y h k = list_all-append is_word_byte x y ∙ and_from _ _ h k

-- a byte behind the space is one of a word
not_at : (b n : ℕ) → n < b → not (b == n) ≡ true
not_at b n h = by_test (b == n) refl
  where
    by_test : (c : Bool) → (b == n) ≡ c → not c ≡ true
    by_test true e = absurd (omega (arith, h, eqb-true b n e))
    by_test false e = refl

pub high_byte : (b : ℕ) → 33 ≤ b → is_word_byte b ≡ true
high_byte b h = and_from _ _ (not_at b 10 (omega (arith, h))) (not_at b 32 (omega (arith, h)))

from_either : (a b c : Bool) → (a || b) ≡ true → (a ≡ true → c ≡ true) → (b ≡ true → c ≡ true) → c ≡ true
from_either true b c h f g = f refl
from_either false b c h f g = g h

from_between : (low high b : ℕ) → 33 ≤ low → is_between low high b ≡ true → is_word_byte b ≡ true
from_between low high b h k = let from = leb-true low b (and_true_left _ _ k) in high_byte b (omega (arith, h, from))

from_one : (one b : ℕ) → 33 ≤ one → (b == one) ≡ true → is_word_byte b ≡ true
from_one one b h k = high_byte b (omega (arith, h, eqb-true b one k))

code_byte : (b : ℕ) → is_code_byte b ≡ true → is_word_byte b ≡ true
code_byte b h = from_either _ _ _ h (from_between 65 90 b (omega arith)) (from_between 48 57 b (omega arith))

local_byte : (b : ℕ) → is_local_byte b ≡ true → is_word_byte b ≡ true
local_byte b h =
    from_either _ _ _ h
    (λ h1. from_either _ _ _ h1
    (λ h2. from_either _ _ _ h2
    (λ h3. from_either _ _ _ h3
    (λ h4. from_either _ _ _ h4 (from_between 65 90 b (omega arith)) (from_between 97 122 b (omega arith)))
    (from_between 48 57 b (omega arith)))
    (from_one 46 b (omega arith)))
    (from_one 95 b (omega arith)))
    (from_one 45 b (omega arith))

pub code_word : (text : Text) → is_code text ≡ true → IsWord text
code_word text h = all_weaker is_code_byte is_word_byte code_byte text (and_true_right _ _ h)

pub label_word : (text : Text) → is_label text ≡ true → IsWord text
label_word text h = all_weaker is_local_byte is_word_byte local_byte text (and_true_right _ _ h)

front_word : (front : Text) → IsTrue (is_code front) ⊎ (front ≡ 120 ∷ []) → IsWord front
front_word front (inl h) = code_word front h
front_word front (inr e) = ap is_word e

pub stop_word : (text : Text) → is_stop_ref text ≡ true → IsWord text
stop_word text h =
    let parts = (stops_have_parts text).0 h in
    ap is_word parts.text_is ∙ word_append parts.front (58 ∷ parts.local) (front_word parts.front parts.front_is) (label_word parts.local parts.local_is)

digit_byte : (b : ℕ) → is_ascii_digit b ≡ true → is_word_byte b ≡ true
digit_byte b h = from_between 48 57 b (omega arith) h

pub decimal_word : (n : ℕ) → n < 2 ^ 32 → IsWord (decimal n)
decimal_word n small =
    all_weaker is_ascii_digit is_word_byte digit_byte (decimal n)
    (and_true_right _ _ (and_true_left _ _ (plain_of n (omega (arith, small)))))

pub marks_word : (marks : List Bool) → IsWord (marks_text marks)
marks_word [] = refl
marks_word (true ∷ marks) = marks_word marks
marks_word (false ∷ marks) = marks_word marks

digit_of : (n : ℕ) → is_word_byte (48 + n) ≡ true
digit_of n = high_byte (48 + n) (omega arith)

two_word : (n : ℕ) → IsWord (two n)
two_word n = and_from _ _ (digit_of (n / 10)) (and_from _ _ (digit_of (n % 10)) refl)

date_word : (date : CalendarDate) → IsWord (date_text date)
date_word date =
    word_append (four date.year) (45 ∷ two date.month ++ 45 ∷ two date.day) (word_append (two (date.year / 100)) (two (date.year % 100)) (two_word (date.year / 100)) (two_word (date.year % 100)))
    (word_append (two date.month) (45 ∷ two date.day) (two_word date.month) (two_word date.day))

pub day_word : (day : ℕ) → IsWord (day_text day)
day_word day = date_word (date_of day)

-- ---- texts without line feeds

abbrev pub is_line_byte : ℕ → Bool
is_line_byte b = not (b == 10)

abbrev pub IsLine : Text → Type 0
IsLine text = list_all is_line_byte text ≡ true

pub word_line : (text : Text) → IsWord text → IsLine text
word_line text h = all_weaker is_word_byte is_line_byte (λ b e. and_true_left _ _ e) text h

pub line_append : (x y : Text) → IsLine x → IsLine y → IsLine (x ++ y)
line_append x y h k = list_all-append is_line_byte x y ∙ and_from _ _ h k

name_byte : (b : ℕ) → is_name_byte b ≡ true → is_line_byte b ≡ true
name_byte b h = let low = leb-true 32 b h in not_at b 10 (omega (arith, low))

pub name_line : (text : Text) → is_name text ≡ true → IsLine text
name_line text h = all_weaker is_name_byte is_line_byte name_byte text (and_true_right _ _ (and_true_left _ _ (and_true_left _ _ h)))
