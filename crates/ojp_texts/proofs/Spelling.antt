-- Lines and fields that are taken apart again.
use Rattle.std.proofs.Common.{◌≡◌, ℕ, ◌+◌, ◌-◌, Bool, true, false, not, ◌==◌, cond, true≢false, List, [], ◌∷◌, ◌++◌, length, take, get_or, refl, sym, ◌∙◌, ap, arith, append_assoc, length-append}
use Rattle.std.specs.Prelude.{slice_index}
use Rattle.std.specs.List.{concat, join_with_byte, onto_first, slice_split}
use Rattle.std.proofs.lemmas.List.Splits.{join_with_byte-slice_split}
use Rattle.ojp_values.specs.Lists.{Each}
use Rattle.ojp_values.specs.Texts.{Text}
use Rattle.ojp_values.proofs.Escapes.{and_true_left, and_true_right}
use Rattle.ojp_zones.specs.Parts.{parts}
use Rattle.ojp_timetable.specs.Fields.{body, fields_of, joined}
use Rattle.ojp_timetable.specs.TableText.{lines_of}
use Rattle.ojp_texts.proofs.Words.{IsLine, IsWord, line_append}

-- ---- fields

pub is_false : (b : Bool) → not b ≡ true → b ≡ false
is_false true h = absurd (true≢false (sym h))
is_false false h = refl

-- a word ends at the space behind it
split_front : (word rest : Text) → IsWord word → slice_split (λ b. b == 32) (word ++ 32 ∷ rest) ≡ word ∷ slice_split (λ b. b == 32) rest
split_front [] rest h = refl
split_front (b ∷ word) rest h =
    ap (λ (c : Bool). cond c ([] ∷ slice_split (λ b. b == 32) (word ++ 32 ∷ rest)) (onto_first b (slice_split (λ b. b == 32) (word ++ 32 ∷ rest))))
    (is_false _ (and_true_right _ _ (and_true_left _ _ h)))
    ∙ ap (onto_first b) (split_front word rest (and_true_right _ _ h))

split_only : (word : Text) → IsWord word → slice_split (λ b. b == 32) word ≡ word ∷ []
split_only [] h = refl
split_only (b ∷ word) h =
    ap (λ (c : Bool). cond c ([] ∷ slice_split (λ b. b == 32) word) (onto_first b (slice_split (λ b. b == 32) word)))
    (is_false _ (and_true_right _ _ (and_true_left _ _ h)))
    ∙ ap (onto_first b) (split_only word (and_true_right _ _ h))

pub fields_front : (word rest : Text) → IsWord word → fields_of (word ++ 32 ∷ rest) ≡ word ∷ fields_of rest
unfolding parts
fields_front word rest h = split_front word rest h

pub fields_only : (word : Text) → IsWord word → fields_of word ≡ word ∷ []
unfolding parts
fields_only word h = split_only word h

-- the fields of words that were joined are the words
pub fields_back : (word : Text) (words : List Text) → IsWord word → Each IsWord words → fields_of (joined (word ∷ words)) ≡ word ∷ words
fields_back word [] h each = fields_only word h
fields_back word (next ∷ words) h each =
    fields_front word (joined (next ∷ words)) h ∙ ap (λ (fields : List Text). word ∷ fields) (fields_back next words each.0 each.1)

pub joined_back : (text : Text) → joined (fields_of text) ≡ text
unfolding parts
joined_back text = join_with_byte-slice_split 32 text

-- ---- the line feed at the end

feed_at : (text : Text) (d : ℕ) → get_or (text ++ 10 ∷ []) (length text) d ≡ 10
feed_at [] d = refl
feed_at (b ∷ text) d = feed_at text d

taken : (text : Text) → take (length text) (text ++ 10 ∷ []) ≡ text
taken [] = refl
taken (b ∷ text) = ap (λ (t : Text). b ∷ t) (taken text)

pub body_is : (text : Text) → body (text ++ 10 ∷ []) ≡ text
unfolding body
body_is text =
    let size : length (text ++ 10 ∷ []) - 1 ≡ length text = omega (arith, length-append text (10 ∷ [])) in
    ap (λ (n : ℕ). cond (slice_index (text ++ 10 ∷ []) n == 10) (take n (text ++ 10 ∷ [])) (text ++ 10 ∷ [])) size
    ∙ (ap (λ (b : ℕ). cond (b == 10) (take (length text) (text ++ 10 ∷ [])) (text ++ 10 ∷ [])) (feed_at text 0) ∙ taken text)

-- ---- lines

first_line : (text rest : Text) → IsLine text → lines_of (text ++ 10 ∷ rest) ≡ (text ++ 10 ∷ []) ∷ lines_of rest
unfolding lines_of
first_line [] rest h = refl
first_line (b ∷ text) rest h =
    ap (λ (c : Bool). cond c ((b ∷ []) ∷ lines_of (text ++ 10 ∷ rest)) (onto_first b (lines_of (text ++ 10 ∷ rest))))
    (is_false _ (and_true_left _ _ h))
    ∙ ap (onto_first b) (first_line text rest (and_true_right _ _ h))

-- a text without line feeds, and one
abbrev pub EndsOnce : Text → Type 0
EndsOnce line = (text : Text) × IsLine text × (line ≡ text ++ 10 ∷ [])

no_lines_of : lines_of [] ≡ []
unfolding lines_of
no_lines_of = refl

-- lines that each end with a line feed are the lines of their text
pub lines_back : (lines : List Text) → Each EndsOnce lines → lines_of (concat lines) ≡ lines
lines_back [] each = no_lines_of
lines_back (line ∷ lines) ((text, is_line, e), each) =
    ap (λ (l : Text). lines_of (l ++ concat lines)) e
    ∙ (ap lines_of (append_assoc text (10 ∷ []) (concat lines))
    ∙ (first_line text (concat lines) is_line
    ∙ (ap (λ (l : Text). l ∷ lines_of (concat lines)) (sym e) ∙ ap (λ (ls : List Text). line ∷ ls) (lines_back lines each))))

-- words that are joined have no line feed
pub joined_line : (word : Text) (words : List Text) → IsLine word → Each IsLine words → IsLine (joined (word ∷ words))
joined_line word [] h each = h
joined_line word (next ∷ words) h each = line_append word (32 ∷ joined (next ∷ words)) h (joined_line next words each.0 each.1)
