-- One more byte of an item that is cut short.
use Rattle.std.proofs.Common.{◌≡◌, ◌≢◌, refl, ℕ, ◌+◌, ◌<◌, ◌≤◌, List, [], ◌∷◌, ◌++◌, length, get_or, sym, ◌∙◌, ap, arith, append_assoc, length-append}
use Rattle.std.proofs.Math.Seq.{get_or-append_seam}
use Rattle.std.proofs.lemmas.List.Elements.{All-append, All-from_recursion}
use Rattle.ojp_grammar.specs.declared.machine.Cut.TheVariants as cuts
use Rattle.ojp_grammar.specs.Items.{text}
use Rattle.ojp_grammar.specs.Places.{IsProperPrefix}
use Rattle.ojp_grammar.specs.Machine.{StaysCut}

-- behind its next byte, which is not its last, a text is cut short too
cut_behind : (t bytes more : List ℕ) (byte : ℕ) → t ≡ bytes ++ more → more ≢ [] → length bytes + 1 < length t → get_or t (length bytes) 0 ≡ byte → IsProperPrefix (bytes ++ byte ∷ []) t
cut_behind t bytes [] byte parts some long next = absurd (some refl)
cut_behind t bytes (b ∷ more) byte parts some long next =
    let same : b ≡ byte =
    sym (get_or-append_seam bytes b more 0) ∙ (ap (λ (l : List ℕ). get_or l (length bytes) 0) (sym parts) ∙ next) in
    let size : length t ≡ length bytes + length (b ∷ more) = ap length parts ∙ length-append bytes (b ∷ more) in (
      more,
      parts ∙ (ap (λ x. bytes ++ x ∷ more) same ∙ sym (append_assoc bytes (byte ∷ []) more)),
      λ none. let last : length more ≡ 0 = ap length none in omega (arith, size, last, long),
    )

pub text_stays : (n passed byte : ℕ) → passed + 1 < length (text n) → get_or (text n) passed 0 ≡ byte → StaysCut (cuts.Text n) passed (byte ∷ [])
text_stays n passed byte long next s bytes size h = (
  h.0,
  cut_behind (text n) bytes h.1.0 byte h.1.1 h.1.2 (omega (arith, long, size)) (ap (λ k. get_or (text n) k 0) size ∙ next),
)

pub field_stays : (passed byte : ℕ) → byte ≢ 60 → passed < 512 → StaysCut cuts.Field passed (byte ∷ [])
field_stays passed byte other few s bytes size h = (
  h.0,
  h.1,
  (
    All-append (λ b. b ≢ 60) bytes (byte ∷ []) h.2.0 (All-from_recursion (λ b. b ≢ 60) (byte ∷ []) (other, tt)),
    omega (arith, length-append bytes (byte ∷ []), size, few),
  ),
)

-- a piece of one byte
pub one_byte : (piece : List ℕ) → 1 ≤ length piece → length piece < 2 → piece ≡ get_or piece 0 0 ∷ []
one_byte [] some few = absurd (omega arith)
one_byte (b ∷ []) some few = refl
one_byte (b ∷ c ∷ piece) some few = absurd (omega arith)
