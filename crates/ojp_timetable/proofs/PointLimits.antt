-- How many points and neighbours there are and how long their changes take, where one more comes.
use Rattle.std.proofs.Common.{◌≡◌, ℕ, zero, suc, ◌+◌, ◌<◌, ◌≤◌, Bool, true, false, ◌&&◌, cond, nat_le, List, [], ◌∷◌, length, refl, sym, arith, true≢false, All, insert}
use Rattle.std.proofs.lemmas.Bool.Decides.{nat_tests}
use Rattle.std.proofs.lemmas.List.Edits.{length-insert}
use Rattle.std.proofs.lemmas.List.Elements.{All-nil, All-cons, All-head, All-tail}
use Rattle.std.specs.Prelude.{find}
use Rattle.ojp_values.specs.Limits.{IsBetween, IsChange, IsWellNeighbour, IsWellPoint}
use Rattle.ojp_values.specs.Lists.{Each}
use Rattle.ojp_values.specs.Texts.{Text, same, text_lt}
use Rattle.ojp_values.specs.declared.trips.Point.{Point}
use Rattle.ojp_values.specs.declared.trips.Neighbour.{Neighbour}
use Rattle.ojp_zones.specs.Numbers.{is_number, is_plain, number}
use Rattle.ojp_timetable.specs.Contents.{point_with, points_with, with_neighbour, with_point}
use Rattle.ojp_timetable.specs.Lines.{new_point}
use Rattle.ojp_timetable.proofs.PointFacts.{place-le}
use Rattle.ojp_timetable.proofs.PointOrder.{each_gains, neighbours_of}

-- ---- a number in its range

le_told : (n m : ℕ) → nat_le n m ≡ true → n ≤ m
le_told n m h = grind (arith, nat_tests)

pub lt_told : (n m : ℕ) → nat_le n m ≡ false → m < n
lt_told n m h = grind (arith, nat_tests)

range_of : (plain low high : Bool) → plain && low && high ≡ true → (low ≡ true) × (high ≡ true)
range_of true true true h = (refl, refl)
range_of true true false h = absurd (true≢false (sym h))
range_of true false high h = absurd (true≢false (sym h))
range_of false low high h = absurd (true≢false (sym h))

pub number_between : (low high : ℕ) (text : Text) → is_number low high text ≡ true → IsBetween low high (number text)
unfolding is_number
number_between low high text h =
    let range = range_of (is_plain text) (nat_le low (number text)) (nat_le (number text) high) h in
    (le_told low (number text) range.0, le_told (number text) high range.1)

-- ---- a point more

pub length-with_point : (points : List Point) (point : Point) → length (with_point points point) ≡ length points + 1
length-with_point points point = length-insert points _ point (place-le (λ (other : Point). text_lt point.stop other.stop) points)

pub new_bounded : (region stop : Text) (change : ℕ) → IsChange change → IsWellPoint (new_point region stop change)
new_bounded region stop change h = (h, omega arith, All-nil IsWellNeighbour)

-- ---- a neighbour more

all_insert : {X : Type 0} (P : X → Type 0) (xs : List X) (i : ℕ) (y : X) → P y → All P xs → All P (insert xs i y)
all_insert P [] zero y p h = All-cons P y [] p (All-nil P)
all_insert P [] (suc i) y p h = All-cons P y [] p (All-nil P)
all_insert P (x ∷ xs) zero y p h = All-cons P y (x ∷ xs) p h
all_insert P (x ∷ xs) (suc i) y p h = All-cons P x (insert xs i y) (All-head P x xs h) (all_insert P xs i y p (All-tail P x xs h))

length-with_neighbour : (neighbours : List Neighbour) (neighbour : Neighbour) → length (with_neighbour neighbours neighbour) ≡ length neighbours + 1
length-with_neighbour neighbours neighbour =
    length-insert neighbours _ neighbour (place-le (λ (other : Neighbour). text_lt neighbour.code other.code) neighbours)

one_bounded : (neighbour : Neighbour) (point : Point) → IsWellNeighbour neighbour → length point.neighbours < 31 → IsWellPoint point → IsWellPoint (point_with point neighbour)
one_bounded neighbour point change room w =
    let longer = length-with_neighbour point.neighbours neighbour in
    (w.0, omega (arith, room, longer), all_insert IsWellNeighbour point.neighbours _ neighbour change w.2)

pub points_bounded : (stop : Text) (neighbour : Neighbour) (points : List Point) → IsWellNeighbour neighbour
    → length (neighbours_of (find (λ (point : Point). same stop point.stop) points)) < 31 → Each IsWellPoint points → Each IsWellPoint (points_with points stop neighbour)
points_bounded stop neighbour points change room each =
    each_gains IsWellPoint (λ neighbours. length neighbours < 31) stop neighbour points (λ point h w. one_bounded neighbour point change h w) room each

length_step : (stop : Text) (neighbour : Neighbour) (point : Point) (points : List Point) (b : Bool) → length (points_with points stop neighbour) ≡ length points
    → length (cond b (point_with point neighbour ∷ points) (point ∷ points_with points stop neighbour)) ≡ length (point ∷ points)
length_step stop neighbour point points true e = refl
length_step stop neighbour point points false e = omega (arith, e)

pub length-points_with : (stop : Text) (neighbour : Neighbour) (points : List Point) → length (points_with points stop neighbour) ≡ length points
length-points_with stop neighbour [] = refl
length-points_with stop neighbour (point ∷ points) = length_step stop neighbour point points (same stop point.stop) (length-points_with stop neighbour points)
