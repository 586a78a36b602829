-- Texts that grow by the text of one more item.
use Rattle.std.proofs.Common.{◌≡◌, ℕ, ◌+◌, ◌<◌, ◌≤◌, List, [], ◌∷◌, ◌++◌, length, get_or, take, refl, sym, ◌∙◌, ap, append-nil, append_assoc}
use Rattle.std.proofs.lemmas.List.{take_all, take_more}
use Rattle.std.proofs.lemmas.List.Concat.{flat_map-append}
use Rattle.std.specs.List.{flat_map}

pub grows_none : {X : Type 0} (f : X → List ℕ) (xs : List X) (start : List ℕ) → start ≡ start ++ flat_map f (take 0 xs)
grows_none f xs start = sym (append-nil start)

pub grows_more : {X : Type 0} (f : X → List ℕ) (xs : List X) (i : ℕ) (x : X) (start out new : List ℕ) → i < length xs → x ≡ get_or xs i x → out ≡ start ++ flat_map f (take i xs) → new ≡ out ++ f x
    → new ≡ start ++ flat_map f (take (i + 1) xs)
grows_more {X} f xs i x start out new h is before step =
    let more : flat_map f (take (i + 1) xs) ≡ flat_map f (take i xs) ++ f x =
    ap (flat_map f) (take_more xs i x h) ∙ (ap (λ (y : X). flat_map f (take i xs ++ y ∷ [])) (sym is) ∙ (flat_map-append f (take i xs) (x ∷ []) ∙ ap (λ (t : List ℕ). flat_map f (take i xs) ++ t) (append-nil (f x)))) in
    step ∙ (ap (λ (t : List ℕ). t ++ f x) before ∙ (append_assoc start (flat_map f (take i xs)) (f x) ∙ ap (λ (t : List ℕ). start ++ t) (sym more)))

pub grows_all : {X : Type 0} (f : X → List ℕ) (xs : List X) (i : ℕ) (start out : List ℕ) → length xs ≤ i → out ≡ start ++ flat_map f (take i xs) → out ≡ start ++ flat_map f xs
grows_all f xs i start out h before = before ∙ ap (λ ys. start ++ flat_map f ys) (take_all i xs h)
