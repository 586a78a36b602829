-- Texts in their order, and points and neighbours that rise.
use Rattle.std.proofs.Common.{◌≡◌, ◌≢◌, Ordering, Bool, true, false, cond, List, [], ◌∷◌, refl, sym, ◌∙◌, ap, true≢false}
use Rattle.std.specs.Prelude.{Option, Some, find, option_map, unwrap_or}
use Rattle.std.specs.List.{list_any}
use Rattle.std.specs.declared.cmp.Ordering.TheVariants.{Less, Equal, Greater}
use Rattle.std.specs.Ordering.{is_lt, is_eq, nat_cmp, ordering_reverse}
use Rattle.std.specs.Cmp.Lexicographic.{slice_cmp}
use Rattle.std.proofs.lemmas.Cmp.{nat_list_cmp_total}
use Rattle.std.proofs.lemmas.Map.Text.{is_eq-slice_cmp}
use Rattle.ojp_values.specs.Lists.{Each, IsRising}
use Rattle.ojp_values.specs.Texts.{Text, same, text_lt}
use Rattle.ojp_values.specs.declared.trips.Point.{Point}
use Rattle.ojp_values.specs.declared.trips.Neighbour.{Neighbour}
use Rattle.ojp_timetable.specs.Contents.{point_with, points_with, with_point}
use Rattle.ojp_timetable.specs.Points.{IsPointOf, neighbour_lt, point_lt}
use Rattle.ojp_timetable.proofs.ListFacts.{each_fails, each_insert, each_map, rises_with}

less : (o : Ordering) → is_lt o ≡ true → o ≡ Less
less Less h = refl
less Equal h = absurd (true≢false (sym h))
less Greater h = absurd (true≢false (sym h))

greater : (o : Ordering) → is_lt o ≡ false → is_eq o ≡ false → o ≡ Greater
greater Less l e = absurd (true≢false l)
greater Equal l e = absurd (true≢false e)
greater Greater l e = refl

pub lt_carried : (x y z : Text) → text_lt x y ≡ true → text_lt y z ≡ true → text_lt x z ≡ true
unfolding text_lt
lt_carried x y z h k = ap is_lt (nat_list_cmp_total.trans x y z (less (slice_cmp nat_cmp x y) h) (less (slice_cmp nat_cmp y z) k))

-- of two texts that are not the same one is before the other
pub lt_other : (x y : Text) → same x y ≡ false → text_lt x y ≡ false → text_lt y x ≡ true
unfolding text_lt same
lt_other x y s h =
    ap is_lt (nat_list_cmp_total.antisymm y x ∙ ap ordering_reverse (greater (slice_cmp nat_cmp x y) h (is_eq-slice_cmp x y ∙ s)))

-- ---- a point more

pub points_rise : (point : Point) (points : List Point) → Each (λ (other : Point). same point.stop other.stop ≡ false) points → IsRising point_lt points
    → IsRising point_lt (with_point points point)
points_rise point points new rises =
    rises_with point_lt (λ x y z h k. lt_carried x.stop y.stop z.stop h k) point points
    (each_map (λ (other : Point). same point.stop other.stop ≡ false) (λ (other : Point). point_lt point other ≡ false → point_lt other point ≡ true)
    (λ other s h. lt_other point.stop other.stop s h) points new)
    rises

-- ---- a neighbour more

point_keeps : (region : Text) (point : Point) (neighbour : Neighbour) → neighbour.code ≢ region → list_any (λ (other : Neighbour). same neighbour.code other.code) point.neighbours ≡ false
    → IsPointOf region point → IsPointOf region (point_with point neighbour)
point_keeps region point neighbour other new w =
    let fails = each_fails (λ (one : Neighbour). same neighbour.code one.code) point.neighbours new in
    record {
      of_region = w.of_region;
      exchange = w.exchange;
      rising = rises_with neighbour_lt (λ x y z h k. lt_carried x.code y.code z.code h k) neighbour point.neighbours
          (each_map (λ (one : Neighbour). same neighbour.code one.code ≡ false) (λ (one : Neighbour). neighbour_lt neighbour one ≡ false → neighbour_lt one neighbour ≡ true)
          (λ one s h. lt_other neighbour.code one.code s h) point.neighbours fails)
          w.rising;
      others = each_insert (λ (one : Neighbour). one.code ≢ region) point.neighbours _ neighbour other w.others;
    }

abbrev pub neighbours_of : Option Point → List Neighbour
neighbours_of found = unwrap_or (option_map (λ (point : Point). point.neighbours) found) []

-- what holds of a point still does with the neighbour, where Q holds of the neighbours that it had
abbrev pub Gains : (Point → Type 0) → (List Neighbour → Type 0) → Neighbour → Type 0
Gains P Q neighbour = (point : Point) → Q point.neighbours → P point → P (point_with point neighbour)

-- the first point of that reference is the one that gets the neighbour
gain_step : (P : Point → Type 0) (Q : List Neighbour → Type 0) (stop : Text) (neighbour : Neighbour) → Gains P Q neighbour → (point : Point) (points : List Point) (found : Option Point) (b : Bool)
    → Q (neighbours_of (cond b (Some point) found)) → P point → Each P points → (Q (neighbours_of found) → Each P (points_with points stop neighbour))
    → Each P (cond b (point_with point neighbour ∷ points) (point ∷ points_with points stop neighbour))
gain_step P Q stop neighbour gains point points found true q p each next = (gains point q p, each)
gain_step P Q stop neighbour gains point points found false q p each next = (p, next q)

pub each_gains : (P : Point → Type 0) (Q : List Neighbour → Type 0) (stop : Text) (neighbour : Neighbour) (points : List Point) → Gains P Q neighbour
    → Q (neighbours_of (find (λ (point : Point). same stop point.stop) points)) → Each P points → Each P (points_with points stop neighbour)
each_gains P Q stop neighbour [] gains q each = tt
each_gains P Q stop neighbour (point ∷ points) gains q each =
    gain_step P Q stop neighbour gains point points (find (λ (p : Point). same stop p.stop) points) (same stop point.stop) q each.0 each.1
    (λ r. each_gains P Q stop neighbour points gains r each.1)

pub points_keep : (region stop : Text) (neighbour : Neighbour) (points : List Point) → neighbour.code ≢ region
    → list_any (λ (other : Neighbour). same neighbour.code other.code) (neighbours_of (find (λ (point : Point). same stop point.stop) points)) ≡ false
    → Each (IsPointOf region) points → Each (IsPointOf region) (points_with points stop neighbour)
points_keep region stop neighbour points other new each =
    each_gains (IsPointOf region) (λ neighbours. list_any (λ (one : Neighbour). same neighbour.code one.code) neighbours ≡ false) stop neighbour points
    (λ point h w. point_keeps region point neighbour other h w) new each

-- what holds of points whatever their neighbours are
abbrev pub IsOfStops : (Point → Type 0) → Type 0
IsOfStops P = (point : Point) (neighbour : Neighbour) → P point → P (point_with point neighbour)

pub each_with : (P : Point → Type 0) → IsOfStops P → (stop : Text) (neighbour : Neighbour) (points : List Point) → Each P points → Each P (points_with points stop neighbour)
each_with P f stop neighbour points each = each_gains P (λ neighbours. Unit {0}) stop neighbour points (λ point q p. f point neighbour p) tt each

rise_step : (stop : Text) (neighbour : Neighbour) (point : Point) (points : List Point) (b : Bool) → Each (λ (y : Point). point_lt point y ≡ true) points
    → Each (λ (y : Point). point_lt point y ≡ true) (points_with points stop neighbour) → IsRising point_lt points → IsRising point_lt (points_with points stop neighbour)
    → IsRising point_lt (cond b (point_with point neighbour ∷ points) (point ∷ points_with points stop neighbour))
rise_step stop neighbour point points true each later rises next = (each, rises)
rise_step stop neighbour point points false each later rises next = (later, next)

pub rise_with : (stop : Text) (neighbour : Neighbour) (points : List Point) → IsRising point_lt points → IsRising point_lt (points_with points stop neighbour)
rise_with stop neighbour [] rises = tt
rise_with stop neighbour (point ∷ points) rises =
    rise_step stop neighbour point points (same stop point.stop) rises.0
    (each_with (λ (y : Point). point_lt point y ≡ true) (λ y n h. h) stop neighbour points rises.0) rises.1 (rise_with stop neighbour points rises.1)
