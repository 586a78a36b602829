-- Codes that stand twice, found in a sorted list.
use Rattle.std.proofs.Common.{◌≡◌, ℕ, zero, suc, ◌<◌, ◌≤◌, cond, List, [], ◌∷◌, Option, Some, None, slice_get, ◌∙◌, ap, inl, inr, arith}
use Rattle.std.specs.List.{count_by}
use Rattle.std.specs.List.Sorted.{IsPermutation, IsSortedBy}
use Rattle.std.proofs.lemmas.Bool.{cases_order}
use Rattle.std.proofs.lemmas.List.Sorted.{sum_by-IsPermutation}
use Rattle.std.proofs.lemmas.Option.{none-some, same_Some}
use Rattle.ojp_values.specs.Texts.{Text, same, text_lt}
use Rattle.ojp_timetable.proofs.Orders.{IsOrder, text_order}
use Rattle.ojp_timetable.proofs.TextFacts.{same_itself}
use Rattle.ojp_exchange.specs.Joins.{first_twice}
use Rattle.ojp_exchange.proofs.CodeFacts.{rises, twice}
use Rattle.ojp_exchange.proofs.SortFacts.{count_more, count_yes, rising_counts, sorted_list}
use Rattle.ojp_links.specs.Seen.{AreDistinct}
use Rattle.ojp_links_mem.specs.Files.{IsTwiceAnswer}

order : IsOrder text_lt same
order = text_order (λ (t : Text). t)

same_counts : (codes sorted : List Text) (z : Text) → IsPermutation codes sorted → count_by (same z) sorted ≡ count_by (same z) codes
same_counts codes sorted z moved = sum_by-IsPermutation (λ (t : Text). cond (same z t) 1 0) codes sorted moved

-- an element that is there counts
counted_at : (codes : List Text) (k : ℕ) (x : Text) → slice_get codes k ≡ Some x → 1 ≤ count_by (same x) codes
counted_at [] k x e = absurd (none-some x e)
counted_at (y ∷ codes) zero x e = omega (arith, count_yes (same x) y codes (ap (same x) (same_Some y x e) ∙ same_itself x))
counted_at (y ∷ codes) (suc k) x e = omega (arith, count_more (same x) y codes, counted_at codes k x e)

-- one that is at two places counts twice
counted_twice : (codes : List Text) (i j : ℕ) (x : Text) → i < j → slice_get codes i ≡ Some x → slice_get codes j ≡ Some x → 2 ≤ count_by (same x) codes
counted_twice [] i j x l a b = absurd (none-some x a)
counted_twice (y ∷ codes) i zero x l a b = absurd (omega (arith, l))
counted_twice (y ∷ codes) zero (suc j) x l a b = omega (arith, count_yes (same x) y codes (ap (same x) (same_Some y x a) ∙ same_itself x), counted_at codes j x b)
counted_twice (y ∷ codes) (suc i) (suc j) x l a b = omega (arith, count_more (same x) y codes, counted_twice codes i j x (omega (arith, l)) a b)

-- codes that count once each are distinct
distinct_counts : (codes : List Text) → ((z : Text) → count_by (same z) codes ≤ 1) → AreDistinct codes
distinct_counts codes h i j x a b = elim (cases_order i j) [
  | inl e ↦ e
  | inr way ↦ elim way [
    | inl below ↦ absurd (omega (arith, h x, counted_twice codes i j x below a b))
    | inr above ↦ absurd (omega (arith, h x, counted_twice codes j i x above b a))
  ]
]

pub twice_answer : (codes sorted : List Text) (answer : Option Text) → IsPermutation codes sorted → IsSortedBy text_lt sorted → first_twice sorted ≡ answer → IsTwiceAnswer codes answer
twice_answer codes sorted None moved up e =
    let rise = rises sorted (sorted_list text_lt same order sorted up) e in
    distinct_counts codes (λ z. omega (arith, rising_counts text_lt same order sorted rise z, same_counts codes sorted z moved))
twice_answer codes sorted (Some code) moved up e =
    let found = twice sorted code (sorted_list text_lt same order sorted up) e in
    record {
      twice = omega (arith, found.0, same_counts codes sorted code moved);
      least = λ other two. found.1 other (omega (arith, two, same_counts codes sorted other moved));
    }
