-- Lists in parts, and what stands in the tables of a book.
use Rattle.std.proofs.Common.{◌≡◌, ℕ, zero, suc, ◌+◌, ◌-◌, ◌<◌, ◌≤◌, Bool, false, not, cond, List, [], ◌∷◌, ◌++◌, Some, slice_get, length, get_or, take, drop, refl, sym, ◌∙◌, ap, subst, inl, inr, arith, slice_index}
use Rattle.std.proofs.lemmas.List.{drop-append-le, get_or_append_left, get_or_default, length-append, take-append-le}
use Rattle.std.proofs.Math.Seq.{drop-append_seam, get_or-append_seam}
use Rattle.std.proofs.Math.Nat.{eq-or-lt_of_le}
use Rattle.ojp_values.proofs.EachFacts.{up_to}
use Rattle.ojp_values.specs.Lists.{Among}
use Rattle.ojp_exchange.specs.Tables.{AreParts, IsPart, part}

module _ {X : Type 0} where
  -- what lies in a list stays when it grows
  range_kept : (xs ys : List X) (a b : ℕ) → a ≤ b → b ≤ length xs → take (b - a) (drop a (xs ++ ys)) ≡ take (b - a) (drop a xs)
  range_kept xs ys a b order within =
      ap (take (b - a)) (drop-append-le a xs ys (omega (arith, order, within)))
      ∙ take-append-le (b - a) (drop a xs) ys (omega (arith, order, within, length_drop a xs))
    where
      length_drop : (n : ℕ) (zs : List X) → length (drop n zs) ≡ length zs - n
      length_drop zero zs = omega arith
      length_drop (suc n) [] = omega arith
      length_drop (suc n) (z ∷ zs) = let r = length_drop n zs in omega (arith, r)

  take_whole : (n : ℕ) (xs : List X) → n ≡ length xs → take n xs ≡ xs
  take_whole zero [] e = refl
  take_whole zero (x ∷ xs) e = absurd (omega (arith, e))
  take_whole (suc n) [] e = refl
  take_whole (suc n) (x ∷ xs) e = ap (λ (zs : List X). x ∷ zs) (take_whole n xs (omega (arith, e)))

  -- what was added behind a list
  range_added : (xs ys : List X) (a b : ℕ) → a ≡ length xs → b ≡ length (xs ++ ys) → take (b - a) (drop a (xs ++ ys)) ≡ ys
  range_added xs ys a b e f =
      ap (λ (n : ℕ). take (b - a) (drop n (xs ++ ys))) e
      ∙ (ap (take (b - a)) (drop-append_seam xs ys) ∙ take_whole (b - a) ys (let l = length-append xs ys in omega (arith, e, f, l)))

  -- the part of that number of a list that is read
  pub part_read : (table xs : List X) (firsts : List ℕ) (i a b : ℕ) → xs ≡ table → i + 1 < length firsts → a ≡ get_or firsts i a → b ≡ get_or firsts (i + 1) b → take (b - a) (drop a xs) ≡ part table firsts i
  part_read table xs firsts i a b is within first next =
      let first' : a ≡ get_or firsts i 0 = first ∙ get_or_default firsts i a 0 (omega (arith, within)) in
      let next' : b ≡ get_or firsts (i + 1) 0 = next ∙ get_or_default firsts (i + 1) b 0 within in
      ap (λ ys. take (b - a) (drop a ys)) is ∙ (ap (λ n. take (b - n) (drop n table)) first' ∙ ap (λ n. take (n - get_or firsts i 0) (drop (get_or firsts i 0) table)) next')

  -- a push that did not fail
  pub pushed_one : (old new : List X) (x : X) (ok failed : Bool) → new ≡ cond ok (old ++ x ∷ []) old → ok ≡ not failed → failed ≡ false → new ≡ old ++ x ∷ []
  pushed_one old new x ok failed e f g = e ∙ ap (λ (b : Bool). cond b (old ++ x ∷ []) old) (f ∙ ap not g)

  pub some_at : (xs : List X) (i : ℕ) → i < length xs → (x : X) × (slice_get xs i ≡ Some x)
  some_at [] i h = absurd (omega (arith, h))
  some_at (x ∷ xs) zero h = (x, refl)
  some_at (x ∷ xs) (suc i) h = some_at xs i (omega (arith, h))

  -- a part that is not empty has an element
  pub some_in : (xs : List X) (a b : ℕ) → a < b → b ≤ length xs → (x : X) × Among x (take (b - a) (drop a xs))
  some_in [] a b h w = absurd (omega (arith, h, w))
  some_in (x ∷ xs) zero zero h w = absurd (omega (arith, h))
  some_in (x ∷ xs) zero (suc b) h w = let n : suc b ≡ suc b - 0 = omega arith in subst (λ (k : ℕ). (y : X) × Among y (take k (x ∷ xs))) n (x, inl refl)
  some_in (x ∷ xs) (suc a) zero h w = absurd (omega (arith, h))
  some_in (x ∷ xs) (suc a) (suc b) h w =
      let n : b - a ≡ suc b - suc a = omega arith in
      subst (λ (k : ℕ). (y : X) × Among y (take k (drop a xs))) n (some_in xs a b (omega (arith, h)) (omega (arith, w)))

  pub none_in : (xs : List X) (a b : ℕ) → b ≤ a → take (b - a) (drop a xs) ≡ []
  none_in xs a b h = let n : b - a ≡ 0 = omega (arith, h) in ap (λ (k : ℕ). take k (drop a xs)) n

  -- a list with no parts
  pub no_parts : (IsRight : ℕ → List X → Type 0) (firsts : List ℕ) → firsts ≡ 0 ∷ [] → AreParts IsRight [] firsts 0
  no_parts IsRight firsts e = record {
    size = ap (λ (fs : List ℕ). length fs) e;
    end = ap (λ (fs : List ℕ). slice_index fs 0) e;
    parts = λ number less. absurd (omega (arith, less));
    right = λ number less. absurd (omega (arith, less));
  }

  module _ (IsRight : ℕ → List X → Type 0) (table more : List X) (firsts : List ℕ) (count : ℕ) (are : AreParts IsRight table firsts count) where
    new_firsts : List ℕ
    new_firsts = firsts ++ length (table ++ more) ∷ []

    old_first : (k : ℕ) → k ≤ count → slice_index new_firsts k ≡ slice_index firsts k
    unfolding new_firsts
    old_first k less = get_or_append_left firsts (length (table ++ more) ∷ []) 0 k (omega (arith, less, are.size))

    last_first : slice_index new_firsts (count + 1) ≡ length (table ++ more)
    unfolding new_firsts
    last_first = ap (λ (n : ℕ). get_or (firsts ++ length (table ++ more) ∷ []) n 0) (sym are.size) ∙ get_or-append_seam firsts (length (table ++ more)) [] 0

    part_in : (k : ℕ) → k < count + 1 → IsPart new_firsts k (length (table ++ more))
    part_in k less = elim (eq-or-lt_of_le (up_to k count less)) [
      | inl e ↦
          let one = ap (slice_index new_firsts) e ∙ (old_first count (omega arith) ∙ are.end) in
          let two = ap (λ (n : ℕ). slice_index new_firsts (n + 1)) e ∙ last_first in
          let l = length-append table more in
          record { rises = omega (arith, one, two, l); within = omega (arith, two) }
      | inr m ↦
          let old = are.parts k m in
          let one = old_first k (omega (arith, m)) in
          let two = old_first (k + 1) (omega (arith, m)) in
          let l = length-append table more in
          record { rises = omega (arith, one, two, old.rises); within = omega (arith, two, old.within, l) }
    ]

    part_right : IsRight count more → (k : ℕ) → k < count + 1 → IsRight k (part (table ++ more) new_firsts k)
    part_right right k less = elim (eq-or-lt_of_le (up_to k count less)) [
      | inl e ↦
          let one = ap (slice_index new_firsts) e ∙ (old_first count (omega arith) ∙ are.end) in
          let two = ap (λ (n : ℕ). slice_index new_firsts (n + 1)) e ∙ last_first in
          let is : part (table ++ more) new_firsts k ≡ more = range_added table more _ _ one two in
          subst (λ (ys : List X). IsRight k ys) (sym is) (subst (λ (n : ℕ). IsRight n more) (sym e) right)
      | inr m ↦
          let old = are.parts k m in
          let one = old_first k (omega (arith, m)) in
          let two = old_first (k + 1) (omega (arith, m)) in
          let is : part (table ++ more) new_firsts k ≡ part table firsts k =
          ap (λ (n : ℕ). take (slice_index new_firsts (k + 1) - n) (drop n (table ++ more))) one
          ∙ (ap (λ (n : ℕ). take (n - slice_index firsts k) (drop (slice_index firsts k) (table ++ more))) two ∙ range_kept table more _ _ old.rises old.within) in
          subst (λ (ys : List X). IsRight k ys) (sym is) (are.right k m)
    ]

  -- a list with one part more
  pub next_part : (IsRight : ℕ → List X → Type 0) (table table' more : List X) (firsts firsts' : List ℕ) (count : ℕ) → AreParts IsRight table firsts count → IsRight count more → table' ≡ table ++ more
      → firsts' ≡ firsts ++ length table' ∷ [] → AreParts IsRight table' firsts' (count + 1)
  unfolding new_firsts
  next_part IsRight table table' more firsts firsts' count are right grown pushed =
      let is : firsts' ≡ new_firsts IsRight table more firsts count are = pushed ∙ ap (λ (n : ℕ). firsts ++ n ∷ []) (ap length grown) in
      subst (λ (t : List X). AreParts IsRight t firsts' (count + 1)) (sym grown)
      (subst (λ (fs : List ℕ). AreParts IsRight (table ++ more) fs (count + 1)) (sym is)
      (record {
        size = let l = length-append firsts (length (table ++ more) ∷ []) in omega (arith, l, are.size);
        end = last_first IsRight table more firsts count are;
        parts = part_in IsRight table more firsts count are;
        right = part_right IsRight table more firsts count are right;
      }))
