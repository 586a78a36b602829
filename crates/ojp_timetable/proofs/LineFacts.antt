-- The first line of a text.
use Rattle.std.proofs.Common.{◌≡◌, ℕ, zero, suc, ◌+◌, ◌<◌, ◌==◌, Bool, true, false, cond, [], ◌∷◌, length, take, drop, get_or, refl, ◌∙◌, ap, arith, add-one}
use Rattle.std.specs.Prelude.{Some, None}
use Rattle.std.specs.List.{onto_first}
use Rattle.std.proofs.lemmas.Bool.{false_from_ne_true}
use Rattle.memchr.specs.Find.{IsFirstByte, is_byte}
use Rattle.ojp_values.specs.Texts.{Text}
use Rattle.ojp_timetable.specs.TableText.{lines_of}

abbrev is_feed : ℕ → Bool
is_feed b = b == 10

line_first : (text : Text) (i : ℕ) → i < length text → is_feed (get_or text i 0) ≡ true → ((k : ℕ) → k < i → is_feed (get_or text k 0) ≡ false)
    → lines_of text ≡ take (suc i) text ∷ lines_of (drop (suc i) text)
unfolding lines_of
line_first [] i low is before = absurd (omega arith)
line_first (b ∷ bytes) zero low is before = ap (λ (c : Bool). cond c ((b ∷ []) ∷ lines_of bytes) (onto_first b (lines_of bytes))) is
line_first (b ∷ bytes) (suc i) low is before =
    ap (λ (c : Bool). cond c ((b ∷ []) ∷ lines_of bytes) (onto_first b (lines_of bytes))) (before 0 (omega arith))
    ∙ ap (onto_first b) (line_first bytes i (omega arith) is (λ k l. before (suc k) (omega arith)))

line_last : (text : Text) → 0 < length text → ((k : ℕ) (d : ℕ) → k < length text → is_feed (get_or text k d) ≡ false) → lines_of text ≡ text ∷ []
unfolding lines_of
line_last [] some all = absurd (omega arith)
line_last (b ∷ []) some all = ap (λ (c : Bool). cond c ((b ∷ []) ∷ []) ((b ∷ []) ∷ [])) (all 0 0 (omega arith))
line_last (b ∷ c ∷ bytes) some all =
    ap (λ (t : Bool). cond t ((b ∷ []) ∷ lines_of (c ∷ bytes)) (onto_first b (lines_of (c ∷ bytes)))) (all 0 0 (omega arith))
    ∙ ap (onto_first b) (line_last (c ∷ bytes) (omega arith) (λ k d l. all (suc k) d (omega arith)))

-- the first line ends at the first line feed
pub lines_of-at : (text : Text) (i : ℕ) → IsFirstByte (is_byte 10) text (Some i) → lines_of text ≡ take (i + 1) text ∷ lines_of (drop (i + 1) text)
lines_of-at text i h = rw add-one (line_first text i h.0.high h.1 (λ k l. false_from_ne_true _ (h.0.before k (omega arith) l)))

-- or is all of the text
pub lines_of-last : (text : Text) → 0 < length text → IsFirstByte (is_byte 10) text None → lines_of text ≡ text ∷ []
lines_of-last text some h =
    line_last text some (λ k d l. ap is_feed (get_or-default text k d 0 l) ∙ false_from_ne_true _ (h k (omega arith) l))
  where
    get_or-default : (xs : Text) (k d e : ℕ) → k < length xs → get_or xs k d ≡ get_or xs k e
    get_or-default [] k d e l = absurd (omega (arith, l))
    get_or-default (x ∷ xs) zero d e l = refl
    get_or-default (x ∷ xs) (suc k) d e l = get_or-default xs k d e (omega (arith, l))
