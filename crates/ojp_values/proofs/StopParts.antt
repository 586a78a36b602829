-- A reference to a stop is a code or `x`, a colon and a local part.
use Rattle.std.proofs.Common.{◌≡◌, ℕ, ◌≤◌, ◌||◌, Bool, true, false, not, true≢false, IsTrue, ◌⊎◌, inl, inr, List, [], ◌∷◌, ◌++◌, length, take, drop, refl, sym, ap, ◌∙◌, subst, arith, take-append-drop}
use Rattle.std.specs.List.{list_all, position_or_len}
use Rattle.std.proofs.lemmas.Bool.{leb-true, eqb-true, or_left, or_right, and_from, le-leb}
use Rattle.std.proofs.lemmas.Slice.Eq.{bytes_eq-Decides}
use Rattle.std.proofs.Math.Seq.{take-append_seam, drop-append_seam}
use Rattle.ojp_values.specs.Texts.{is_code, is_label, is_stop_ref, is_code_byte, is_colon, is_x, is_tail, is_between}
use Rattle.ojp_values.specs.Stops.{HasParts, StopsHaveParts}
use Rattle.ojp_values.proofs.Escapes.{and_true_left, and_true_right}

between : (low high n : ℕ) → low ≤ n → n ≤ high → is_between low high n ≡ true
between low high n from to = and_from _ _ (le-leb low n from) (le-leb n high to)

-- a colon makes a label one byte longer
count_less : (b : ℕ) (local : List ℕ) → is_between 2 33 (length (b ∷ local)) ≡ true → is_between 1 32 (length local) ≡ true
count_less b local h =
    let low : 2 ≤ length (b ∷ local) = leb-true 2 (length (b ∷ local)) (and_true_left _ _ h) in
    let high : length (b ∷ local) ≤ 33 = leb-true (length (b ∷ local)) 33 (and_true_right _ _ h) in
    between 1 32 (length local) (omega (arith, low)) (omega (arith, high))

count_more : (b : ℕ) (local : List ℕ) → is_between 1 32 (length local) ≡ true → is_between 2 33 (length (b ∷ local)) ≡ true
count_more b local h =
    let low : 1 ≤ length local = leb-true 1 (length local) (and_true_left _ _ h) in
    let high : length local ≤ 32 = leb-true (length local) 32 (and_true_right _ _ h) in
    between 2 33 (length (b ∷ local)) (omega (arith, low)) (omega (arith, high))

-- ---- from the text to its parts

by_x : (front : List ℕ) (b : Bool) → b ≡ is_x front → (b || is_code front) ≡ true → IsTrue (is_code front) ⊎ (front ≡ 120 ∷ [])
by_x front true e h = inr ((bytes_eq-Decides front (120 ∷ [])).0 (sym e))
by_x front false e h = inl h

-- a tail is a colon and a label
tail_parts : (tail : List ℕ) → is_tail tail ≡ true → (local : List ℕ) × (tail ≡ 58 ∷ local) × IsTrue (is_label local)
tail_parts [] h = absurd (true≢false (sym h))
tail_parts (b ∷ local) h =
    let head = and_true_left _ _ h in
    let colon : b ≡ 58 = eqb-true b 58 (and_true_right _ _ head) in
    (local, ap (λ x. x ∷ local) colon, and_from _ _ (count_less b local (and_true_left _ _ head)) (and_true_right _ _ h))

to_parts : (text : List ℕ) → IsTrue (is_stop_ref text) → HasParts text
to_parts text h =
    let at = position_or_len is_colon text in
    let tail = tail_parts (drop at text) (and_true_right (is_x (take at text) || is_code (take at text)) (is_tail (drop at text)) h) in
    record {
      front = take at text;
      local = tail.0;
      front_is = by_x (take at text) (is_x (take at text)) refl (and_true_left _ _ h);
      local_is = tail.2;
      text_is = sym (take-append-drop at text) ∙ ap (λ more. take at text ++ more) tail.1;
    }

-- ---- from the parts to the text

-- the first colon stands behind what has none
colon_behind : (front local : List ℕ) → list_all (λ b. not (is_colon b)) front ≡ true → position_or_len is_colon (front ++ 58 ∷ local) ≡ length front
colon_behind [] local h = refl
colon_behind (b ∷ front) local h =
    let other : not (is_colon b) ≡ true = and_true_left _ _ h in
    rw other (omega (arith, colon_behind front local (and_true_right _ _ h)))

no_colon : (front : List ℕ) → list_all is_code_byte front ≡ true → list_all (λ b. not (is_colon b)) front ≡ true
no_colon [] h = refl
no_colon (b ∷ front) h =
    and_from _ _ (by_colon (is_colon b) b refl (and_true_left _ _ h)) (no_colon front (and_true_right _ _ h))
  where
    by_colon : (colon : Bool) (b : ℕ) → colon ≡ is_colon b → is_code_byte b ≡ true → not colon ≡ true
    by_colon false b e h = refl
    by_colon true b e h = absurd (true≢false (sym h ∙ ap is_code_byte (eqb-true b 58 (sym e))))

front_has_no_colon : (front : List ℕ) → IsTrue (is_code front) ⊎ (front ≡ 120 ∷ []) → list_all (λ b. not (is_colon b)) front ≡ true
front_has_no_colon front (inl code) = no_colon front (and_true_right _ _ code)
front_has_no_colon front (inr x) = rw x refl

front_test : (front : List ℕ) → IsTrue (is_code front) ⊎ (front ≡ 120 ∷ []) → (is_x front || is_code front) ≡ true
front_test front (inl code) = or_right (is_x front) (is_code front) code
front_test front (inr x) = or_left (is_x front) (is_code front) ((bytes_eq-Decides front (120 ∷ [])).1 x)

tail_test : (local : List ℕ) → IsTrue (is_label local) → is_tail (58 ∷ local) ≡ true
tail_test local h =
    and_from _ _ (and_from _ _ (count_more 58 local (and_true_left _ _ h)) refl) (and_true_right _ _ h)

of_parts : (front local : List ℕ) → IsTrue (is_code front) ⊎ (front ≡ 120 ∷ []) → IsTrue (is_label local)
    → IsTrue (is_stop_ref (front ++ 58 ∷ local))
of_parts front local own label =
    rw (colon_behind front local (front_has_no_colon front own), take-append_seam front (58 ∷ local), drop-append_seam front (58 ∷ local))
    (and_from _ _ (front_test front own) (tail_test local label))

from_parts : (text : List ℕ) → HasParts text → IsTrue (is_stop_ref text)
from_parts text h =
    let P : List ℕ → Type 0 = λ t. IsTrue (is_stop_ref t) in
    subst P (sym h.text_is) (of_parts h.front h.local h.front_is h.local_is)

pub stops_have_parts : StopsHaveParts
stops_have_parts text = (to_parts text, from_parts text)
