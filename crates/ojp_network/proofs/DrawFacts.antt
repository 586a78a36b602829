-- States behind draws, and lists by number.
use Rattle.std.proofs.Common.{◌≡◌, ℕ, zero, suc, ◌+◌, List, [], ◌∷◌, ◌++◌, refl, sym, ◌∙◌, ap, arith, append-nil, append_assoc}
use Rattle.std.proofs.lemmas.List.Concat.{flat_map-append}
use Rattle.std.specs.List.{flat_map}
use Rattle.std.proofs.lemmas.List.FromFn.{map-range_with_len_more}
use Rattle.ojp_network.specs.Draws.{below, draw, drawn_from, next_state, state_after}

pub state_none : (z : ℕ) → state_after z 0 ≡ z
unfolding state_after
state_none z = refl

pub state_more : (z k : ℕ) → state_after z (k + 1) ≡ next_state (state_after z k)
unfolding state_after
state_more z k = let e : k + 1 ≡ suc k = omega arith in rw e refl

-- draws behind draws
pub state_sum : (z j k : ℕ) → state_after (state_after z j) k ≡ state_after z (j + k)
unfolding state_after
state_sum z j zero = let e : j + 0 ≡ j = omega arith in rw e refl
state_sum z j (suc k) = let e : j + suc k ≡ suc (j + k) = omega arith in rw e (ap next_state (state_sum z j k))

pub below_none : {X : Type 0} (f : ℕ → X) → below f 0 ≡ []
unfolding below
below_none f = refl

pub below_more : {X : Type 0} (f : ℕ → X) (n : ℕ) → below f (n + 1) ≡ below f n ++ f n ∷ []
unfolding below
below_more f n = map-range_with_len_more f 0 n n (omega arith)

-- a list with one more, where it is that of the next number
pub one_more : {X : Type 0} (f : ℕ → X) (n : ℕ) (xs new : List X) (x : X) → new ≡ xs ++ x ∷ [] → xs ≡ below f n → x ≡ f n → new ≡ below f (n + 1)
one_more {X} f n xs new x step before is = step ∙ (ap (λ (ys : List X). ys ++ x ∷ []) before ∙ (ap (λ (y : X). below f n ++ y ∷ []) is ∙ sym (below_more f n)))

-- what is made of one more number
pub flat_more : {X : Type 0} (g : X → List ℕ) (f : ℕ → X) (n : ℕ) → flat_map g (below f (n + 1)) ≡ flat_map g (below f n) ++ g (f n)
flat_more g f n = ap (flat_map g) (below_more f n) ∙ (flat_map-append g (below f n) (f n ∷ []) ∙ ap (λ (t : List ℕ). flat_map g (below f n) ++ t) (append-nil (g (f n))))

pub flat_none : {X : Type 0} (g : X → List ℕ) (f : ℕ → X) → flat_map g (below f 0) ≡ []
flat_none g f = ap (flat_map g) (below_none f)

-- the draw of a state that is behind so many draws
pub drawn_at : (z k state m : ℕ) → state ≡ state_after z k → drawn_from (next_state state) m ≡ draw z k m
drawn_at z k state m e = ap (λ (s : ℕ). drawn_from (next_state s) m) e

-- and the state behind it
pub state_next : (z k n state next : ℕ) → state ≡ state_after z k → next ≡ next_state state → k + 1 ≡ n → next ≡ state_after z n
state_next z k n state next e f g = f ∙ (ap next_state e ∙ (sym (state_more z k) ∙ ap (state_after z) g))

pub state_first : (z : ℕ) → z ≡ state_after z 0
state_first z = sym (state_none z)

-- ---- a text that grows

pub grows : (start out new text piece whole : List ℕ) → out ≡ start ++ text → new ≡ out ++ piece → text ++ piece ≡ whole → new ≡ start ++ whole
grows start out new text piece whole before step more =
    step ∙ (ap (λ (t : List ℕ). t ++ piece) before ∙ (append_assoc start text piece ∙ ap (λ (t : List ℕ). start ++ t) more))

-- by what is made of one more number
pub grows_flat : {X : Type 0} (g : X → List ℕ) (f : ℕ → X) (n : ℕ) (start out new piece : List ℕ) → out ≡ start ++ flat_map g (below f n) → new ≡ out ++ piece → piece ≡ g (f n)
    → new ≡ start ++ flat_map g (below f (n + 1))
grows_flat g f n start out new piece before step is =
    grows start out new (flat_map g (below f n)) piece (flat_map g (below f (n + 1))) before step (ap (λ (t : List ℕ). flat_map g (below f n) ++ t) is ∙ sym (flat_more g f n))

pub grows_none : {X : Type 0} (g : X → List ℕ) (f : ℕ → X) (start : List ℕ) → start ≡ start ++ flat_map g (below f 0)
grows_none g f start = sym (ap (λ (t : List ℕ). start ++ t) (flat_none g f) ∙ append-nil start)
