-- Lists of texts: which stands where, and which begins which.
use Rattle.std.specs.Prelude.{ℕ, Bool, true, ◌&&◌, not, nat_eq, List, [], ◌∷◌, Option, position}
use Rattle.std.specs.List.{list_all, starts_with}
use Rattle.std.specs.Cmp.Lexicographic.{pointwise}

-- neither text begins with the other, so they differ too
abbrev pub are_apart : List ℕ → List ℕ → Bool
are_apart a b = not (starts_with nat_eq a b) && not (starts_with nat_eq b a)

-- no text of the list begins with another
abbrev pub is_prefix_free : List (List ℕ) → Bool
is_prefix_free [] = true
is_prefix_free (text ∷ texts) = list_all (are_apart text) texts && is_prefix_free texts

-- the number of the first text that is the bytes
abbrev pub place_of : List (List ℕ) → List ℕ → Option ℕ
place_of texts bytes = position (λ text. pointwise nat_eq text bytes) texts

-- the number of the first text that the bytes begin with
abbrev pub front_of : List (List ℕ) → List ℕ → Option ℕ
front_of texts bytes = position (λ text. starts_with nat_eq bytes text) texts
