-- A neighbour more at the first point of a reference.
use Rattle.std.proofs.Common.{◌≡◌, ℕ, zero, suc, ◌<◌, ◌≤◌, Bool, true, false, not, cond, nat_lt, List, [], ◌∷◌, length, get_or, set, refl, ◌∙◌, ap, arith}
use Rattle.std.specs.Prelude.{Some, None, position, bytes_eq, unwrap_or}
use Rattle.std.proofs.lemmas.Bool.Decides.{nat_tests}
use Rattle.std.proofs.lemmas.List.Quantifiers.{position-Some}
use Rattle.std.proofs.lemmas.List.Sums.{prefix_len-le-length}
pub use Rattle.ojp_values.proofs.Positions.{none_passes}
use Rattle.ojp_values.specs.Texts.{Text, same}
use Rattle.ojp_values.specs.declared.trips.Point.{Point}
use Rattle.ojp_values.specs.declared.trips.Neighbour.{Neighbour}
use Rattle.ojp_timetable.specs.Contents.{point_with, points_with}

-- a place at which a test stops, or the end
place_low : (n m : ℕ) → n ≤ m → unwrap_or (cond (nat_lt n m) (Some n) None) m ≤ m
place_low n m h = grind (arith, nat_tests)

pub place-le : {X : Type 0} (p : X → Bool) (xs : List X) → unwrap_or (position p xs) (length xs) ≤ length xs
place-le p xs = place_low _ _ (prefix_len-le-length (λ x. not (p x)) xs)

at_first : (stop : Text) (neighbour : Neighbour) (points : List Point) (i : ℕ) (d : Point) → i < length points → bytes_eq stop (get_or points i d).stop ≡ true
    → ((k : ℕ) → k < i → bytes_eq stop (get_or points k d).stop ≡ false) → points_with points stop neighbour ≡ set points i (point_with (get_or points i d) neighbour)
unfolding same
at_first stop neighbour [] i d low is before = absurd (omega arith)
at_first stop neighbour (point ∷ points) zero d low is before =
    ap (λ (b : Bool). cond b (point_with point neighbour ∷ points) (point ∷ points_with points stop neighbour)) is
at_first stop neighbour (point ∷ points) (suc i) d low is before =
    ap (λ (b : Bool). cond b (point_with point neighbour ∷ points) (point ∷ points_with points stop neighbour)) (before 0 (omega arith))
    ∙ ap (λ (ps : List Point). point ∷ ps) (at_first stop neighbour points i d (omega arith) is (λ k l. before (suc k) (omega arith)))

pub points_with-at : (stop : Text) (neighbour : Neighbour) (points : List Point) (i : ℕ) (d : Point) → position (λ (point : Point). bytes_eq stop point.stop) points ≡ Some i
    → points_with points stop neighbour ≡ set points i (point_with (get_or points i d) neighbour)
points_with-at stop neighbour points i d h =
    let s = position-Some (λ (point : Point). bytes_eq stop point.stop) points i d h in
    at_first stop neighbour points i d s.0 s.1 s.2

at_none : (stop : Text) (neighbour : Neighbour) (points : List Point) → ((k : ℕ) (d : Point) → k < length points → bytes_eq stop (get_or points k d).stop ≡ false)
    → points_with points stop neighbour ≡ points
unfolding same
at_none stop neighbour [] all = refl
at_none stop neighbour (point ∷ points) all =
    ap (λ (b : Bool). cond b (point_with point neighbour ∷ points) (point ∷ points_with points stop neighbour)) (all 0 point (omega arith))
    ∙ ap (λ (ps : List Point). point ∷ ps) (at_none stop neighbour points (λ k d l. all (suc k) d (omega arith)))

pub points_with-none : (stop : Text) (neighbour : Neighbour) (points : List Point) → position (λ (point : Point). bytes_eq stop point.stop) points ≡ None
    → points_with points stop neighbour ≡ points
points_with-none stop neighbour points h = at_none stop neighbour points (none_passes (λ (point : Point). bytes_eq stop point.stop) points h)
