-- Halts that are added, joined and left out.
use Rattle.std.proofs.Common.{◌≡◌, ℕ, zero, suc, ◌+◌, ◌<◌, ◌≤◌, Bool, true, false, cond, List, [], ◌∷◌, ◌++◌, length, get_or, refl, sym, subst, ◌∙◌, arith}
use Rattle.std.specs.List.{All, AllPairs, filter}
use Rattle.std.proofs.lemmas.List.Elements.{All-cons, All-head, All-nil, All-push, All-tail}
use Rattle.std.proofs.lemmas.List.{get_or_append_left, get_or_push, length_push}
use Rattle.std.proofs.lemmas.List.Quantifiers.{all_pairs_push}
use Rattle.ojp_feed_rows.specs.declared.trips.StopTime.{StopTime}
use Rattle.ojp_feed_trips.specs.Halts.{AreFirstHalts, AreHalts, IsAbove, IsHalt, first_boarding, joined, last_alighting, open_halts, stays}
use Rattle.ojp_feed_trips.specs.declared.halts.Halt.{Halt}

pub no_halts : (rows : List StopTime) (places : List ℕ) → AreFirstHalts rows places [] 0
no_halts rows places = record {
  are = record { each = All-nil (IsHalt rows places); order = λ i j d h k. absurd (omega arith) };
  within = All-nil (λ (halt : Halt). halt.last < 0);
}

-- one more halt, behind those of the first n rows
pub push_halt : (rows : List StopTime) (places : List ℕ) (halts : List Halt) (halt : Halt) (n m : ℕ) → AreFirstHalts rows places halts n → IsHalt rows places halt → n ≤ halt.first → halt.last < m
    → AreFirstHalts rows places (halts ++ halt ∷ []) m
push_halt rows places halts halt n m before is above below =
    let order : halt.first ≤ halt.last = is.order in
    record {
      are = record {
        each = All-push (IsHalt rows places) halts halt before.are.each is;
        order = all_pairs_push IsAbove halts halt before.are.order (λ k d h. omega (arith, before.within k d h));
      };
      within = All-push (λ (h : Halt). h.last < m) halts halt (λ k d h. omega (arith, before.within k d h)) below;
    }

-- the last halt without the one that it is joined with
pub grown_halt : (rows : List StopTime) (places : List ℕ) (halts : List Halt) (before halt : Halt) (n m : ℕ) → AreFirstHalts rows places (halts ++ before ∷ []) n → IsHalt rows places halt → n ≤ halt.first
    → before.place ≡ halt.place → halt.last < m → AreFirstHalts rows places (halts ++ joined before halt ∷ []) m
grown_halt rows places halts before halt n m all is above same below =
    let len : length (halts ++ before ∷ []) ≡ length halts + 1 = length_push halts before in
    let last : IsHalt rows places before = subst (λ (h : Halt). IsHalt rows places h) (get_or_push halts before before (length halts) refl) (all.are.each (length halts) before (omega arith)) in
    let low : before.last < n = subst (λ (h : Halt). h.last < n) (get_or_push halts before before (length halts) refl) (all.within (length halts) before (omega arith)) in
    let order : halt.first ≤ halt.last = is.order in
    let begun : before.first ≤ before.last = last.order in
    let front : (k : ℕ) (d : Halt) → k < length halts → get_or (halts ++ before ∷ []) k d ≡ get_or halts k d = λ k d h. get_or_append_left halts (before ∷ []) d k h in
    let joint : IsHalt rows places (joined before halt) = record {
      comes = last.comes;
      goes = is.goes;
      comes_at = last.comes_at;
      goes_at = is.goes_at;
      order = omega arith;
      comes_to = last.comes_to;
      goes_from = is.goes_from ∙ sym same;
      arrives = last.arrives;
      departs = is.departs;
    } in
    record {
      are = record {
        each = All-push (IsHalt rows places) halts (joined before halt) (λ k d h. subst (λ (g : Halt). IsHalt rows places g) (front k d h) (all.are.each k d (omega arith))) joint;
        order = all_pairs_push IsAbove halts (joined before halt)
            (λ i j d g h. subst (λ (x : Halt). IsAbove x (get_or halts j d)) (front i d (omega arith)) (subst (λ (y : Halt). IsAbove (get_or (halts ++ before ∷ []) i d) y) (front j d h) (all.are.order i j d g (omega arith))))
            (λ k d h. subst (λ (x : Halt). IsAbove x before) (front k d h) (subst (λ (y : Halt). IsAbove (get_or (halts ++ before ∷ []) k d) y) (get_or_push halts before d (length halts) refl) (all.are.order k (length halts) d h (omega arith))));
      };
      within = All-push (λ (g : Halt). g.last < m) halts (joined before halt) (λ k d h. let e = front k d h in let l : (get_or (halts ++ before ∷ []) k d).last < n = all.within k d (omega arith) in let l2 : (get_or halts k d).last < n = subst (λ (x : Halt). x.last < n) e l in omega arith) below;
    }

-- halts of a list that pass a test
pub all_filter : {X : Type 0} (P : X → Type 0) (p : X → Bool) (xs : List X) → All P xs → All P (filter p xs)
all_filter P p [] all = All-nil P
all_filter P p (x ∷ xs) all =
    let more = all_filter P p xs (All-tail P x xs all) in
    elim (p x) as (λ b. All P (cond b (x ∷ filter p xs) (filter p xs))) [ true ↦ All-cons P x (filter p xs) (All-head P x xs all) more | false ↦ more ]

pairs_tail : {X : Type 0} (R : X → X → Type 0) (x : X) (xs : List X) → AllPairs R (x ∷ xs) → AllPairs R xs
pairs_tail R x xs all = λ i j d h k. all (suc i) (suc j) d (omega arith) (omega arith)

pairs_head : {X : Type 0} (R : X → X → Type 0) (x : X) (xs : List X) → AllPairs R (x ∷ xs) → All (λ y. R x y) xs
pairs_head R x xs all = λ k d h. all 0 (suc k) d (omega arith) (omega arith)

pairs_cons : {X : Type 0} (R : X → X → Type 0) (x : X) (xs : List X) → All (λ y. R x y) xs → AllPairs R xs → AllPairs R (x ∷ xs)
pairs_cons R x xs first rest zero zero d h k = absurd (omega arith)
pairs_cons R x xs first rest zero (suc j) d h k = first j d (omega arith)
pairs_cons R x xs first rest (suc i) zero d h k = absurd (omega arith)
pairs_cons R x xs first rest (suc i) (suc j) d h k = rest i j d (omega arith) (omega arith)

pub pairs_filter : {X : Type 0} (R : X → X → Type 0) (p : X → Bool) (xs : List X) → AllPairs R xs → AllPairs R (filter p xs)
pairs_filter R p [] all = all
pairs_filter R p (x ∷ xs) all =
    let more = pairs_filter R p xs (pairs_tail R x xs all) in
    let first = all_filter (λ y. R x y) p xs (pairs_head R x xs all) in
    elim (p x) as (λ b. AllPairs R (cond b (x ∷ filter p xs) (filter p xs))) [ true ↦ pairs_cons R x (filter p xs) first more | false ↦ more ]

-- the halts that are written stem from the rows in their order too
pub open_stem : (rows : List StopTime) (places : List ℕ) (as_open : Bool) (halts kept : List Halt) → AreHalts rows places halts → kept ≡ open_halts as_open halts → AreHalts rows places kept
open_stem rows places as_open halts kept are is =
    let test : Halt → Bool = λ (halt : Halt). stays (first_boarding halts) (last_alighting halts) as_open halt in
    subst (λ (xs : List Halt). AreHalts rows places xs) (sym is) (record { each = all_filter (IsHalt rows places) test halts are.each; order = pairs_filter IsAbove test halts are.order })
