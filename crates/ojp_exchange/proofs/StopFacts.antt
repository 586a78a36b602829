-- How many stops the points behind one have.
use Rattle.std.proofs.Common.{◌≡◌, ℕ, zero, suc, ◌+◌, ◌<◌, ◌≤◌, Bool, true, false, not, cond, List, [], ◌∷◌, Some, drop, length, map, refl, sym, ◌∙◌, ap, subst, arith, slice_get, true≢false}
use Rattle.std.specs.Prelude.{MatchBool}
use Rattle.std.proofs.lemmas.Option.{none-some, same_Some, slice_get_within}
use Rattle.ojp_values.specs.Texts.{Text, same}
use Rattle.ojp_values.specs.declared.trips.Point.{Point}
use Rattle.ojp_exchange.specs.Disputes.{IsLastThere}
use Rattle.ojp_exchange.specs.Kept.{spot_of, stops_of}

module _ {X : Type 0} where
  drop_at : (xs : List X) (k : ℕ) (x : X) → slice_get xs k ≡ Some x → drop k xs ≡ x ∷ drop (suc k) xs
  drop_at [] k x e = absurd (none-some x e)
  drop_at (y ∷ ys) zero x e = ap (λ (z : X). z ∷ ys) (same_Some y x e)
  drop_at (y ∷ ys) (suc k) x e = drop_at ys k x e

  drop_short : (xs : List X) (k : ℕ) → k ≤ length xs → drop k xs ≡ [] → length xs ≡ k
  drop_short [] zero h e = refl
  drop_short [] (suc k) h e = absurd (omega (arith, h))
  drop_short (y ∷ ys) zero h e = absurd (cc)
  drop_short (y ∷ ys) (suc k) h e = let r = drop_short ys k (omega (arith, h)) e in omega (arith, r)

  drop_head : (xs : List X) (k : ℕ) (y : X) (more : List X) → drop k xs ≡ y ∷ more → slice_get xs k ≡ Some y
  drop_head [] zero y more e = absurd (cc)
  drop_head [] (suc k) y more e = absurd (cc)
  drop_head (z ∷ zs) zero y more e = cc
  drop_head (z ∷ zs) (suc k) y more e = drop_head zs k y more e

abbrev stops_behind : List Point → ℕ
stops_behind points = length (stops_of (map spot_of points))

-- a last one counts
abbrev counts : Bool → ℕ
counts last = cond last 1 0

two_case : (b last : Bool) (x : Text) (rest : List Text) → MatchBool last (b ≡ false) (b ≡ true) → length (cond b rest (x ∷ rest)) ≡ counts last + length rest
two_case true true x rest h = absurd (true≢false h)
two_case true false x rest h = omega arith
two_case false true x rest h = omega arith
two_case false false x rest h = absurd (true≢false (sym h))

step : (points : List Point) (i : ℕ) (last : Bool) (x : Point) (rest : List Point) → drop (suc i) points ≡ rest → i < length points → slice_get points i ≡ Some x
    → (length points ≡ i + 1 → last ≡ true) → ((next : Point) → slice_get points (i + 1) ≡ Some next → MatchBool last (same x.stop next.stop ≡ false) (same x.stop next.stop ≡ true))
    → stops_behind (x ∷ rest) ≡ counts last + stops_behind rest
step points i last x [] e inside at end apart =
    let short : length points ≡ i + 1 = let s = drop_short points (suc i) (omega (arith, inside)) e in omega (arith, s) in
    sym (ap (λ (b : Bool). counts b + 0) (end short))
step points i last x (y ∷ more) e inside at end apart =
    let n : suc i ≡ i + 1 = omega arith in
    two_case (same x.stop y.stop) last x.stop (stops_of (map spot_of (y ∷ more))) (apart y (subst (λ (k : ℕ). slice_get points k ≡ Some y) n (drop_head points (suc i) y more e)))

pub stops_step : (points : List Point) (i : ℕ) (last : Bool) → i < length points → IsLastThere points i last → stops_behind (drop i points) ≡ counts last + stops_behind (drop (i + 1) points)
stops_step points i last inside l =
    let n : suc i ≡ i + 1 = omega arith in
    ap stops_behind (drop_at points i l.point l.at)
    ∙ (step points i last l.point (drop (suc i) points) refl inside l.at l.end l.apart ∙ ap (λ (k : ℕ). counts last + stops_behind (drop k points)) n)

pub last_end : (points : List Point) (i : ℕ) (point : Point) → slice_get points i ≡ Some point → i + 1 ≡ length points → IsLastThere points i true
last_end points i point at e = record {
  point = point;
  at = at;
  end = λ _. refl;
  apart = λ next r. absurd (omega (arith, e, slice_get_within points (i + 1) next r));
}

apart_case : (b : Bool) (x y : Text) → b ≡ same x y → MatchBool (not b) (same x y ≡ false) (same x y ≡ true)
apart_case true x y e = sym e
apart_case false x y e = sym e

pub last_apart : (points : List Point) (i : ℕ) (x y : Point) (b : Bool) → slice_get points i ≡ Some x → slice_get points (i + 1) ≡ Some y → b ≡ same x.stop y.stop → IsLastThere points i (not b)
last_apart points i x y b at behind e = record {
  point = x;
  at = at;
  end = λ short. absurd (omega (arith, short, slice_get_within points (i + 1) y behind));
  apart = λ next r. subst (λ (p : Point). MatchBool (not b) (same x.stop p.stop ≡ false) (same x.stop p.stop ≡ true)) (same_Some y next (sym behind ∙ r)) (apart_case b x.stop y.stop e);
}
