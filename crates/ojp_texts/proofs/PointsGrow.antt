-- The exchange points that places declare, in their order.
use Rattle.std.proofs.Common.{◌≡◌, ◌≢◌, ◌⊎◌, inl, inr, ℕ, ◌+◌, ◌≤◌, Bool, true, false, cond, true≢false, List, [], ◌∷◌, length, refl, sym, ◌∙◌, ap, subst, arith, map, fold}
use Rattle.ojp_values.specs.Lists.{Among, Each, IsRising}
use Rattle.ojp_values.specs.Texts.{Text, is_exchange, same}
use Rattle.ojp_values.specs.declared.trips.Point.{Point}
use Rattle.ojp_values.proofs.ListFacts.{among_map, among_map_back, each_at}
use Rattle.ojp_timetable.specs.Contents.{with_point}
use Rattle.ojp_timetable.specs.Lines.{new_point}
use Rattle.ojp_timetable.specs.Points.{AreWellPoints, IsPointOf, point_lt}
use Rattle.ojp_timetable.specs.Runs.{IsAt}
use Rattle.ojp_timetable.specs.Tables.{Place}
use Rattle.ojp_timetable.proofs.AmongFacts.{among_insert, among_insert_or, among_inserted}
use Rattle.ojp_timetable.proofs.ListFacts.{each_insert}
use Rattle.ojp_timetable.proofs.Orders.{not_before_itself}
use Rattle.ojp_timetable.proofs.PointLimits.{length-with_point}
use Rattle.ojp_timetable.proofs.PointOrder.{lt_carried, points_rise}
use Rattle.ojp_timetable.proofs.TextFacts.{is_differ}
use Rattle.ojp_texts.specs.Spelled.{HaveOwn}

abbrev pub one_more : Text → List Point → Place → List Point
one_more region points place = cond (is_exchange place.stop) (with_point points (new_point region place.stop place.change)) points

-- the points with those of more places
abbrev pub points_after : Text → List Point → List Place → List Point
points_after region points places = fold (one_more region) points places

-- how many of the places are shared
abbrev pub shared_in : List Place → ℕ
shared_in [] = 0
shared_in (place ∷ places) = cond (is_exchange place.stop) 1 0 + shared_in places

-- the point without its neighbours
unfoldable pub bare : Point → Point
bare point = record point { neighbours = [] }

-- ---- how many

length_step : (region : Text) (points : List Point) (place : Place) (b : Bool)
    → length (cond b (with_point points (new_point region place.stop place.change)) points) ≡ length points + cond b 1 0
length_step region points place true = length-with_point points (new_point region place.stop place.change)
length_step region points place false = omega arith

pub length-one_more : (region : Text) (points : List Point) (place : Place) → length (one_more region points place) ≡ length points + cond (is_exchange place.stop) 1 0
length-one_more region points place = length_step region points place (is_exchange place.stop)

length-points_after : (region : Text) (points : List Point) (places : List Place) → length (points_after region points places) ≡ length points + shared_in places
length-points_after region points [] = omega arith
length-points_after region points (place ∷ places) =
    omega (arith, length-points_after region (one_more region points place) places, length-one_more region points place)

-- ---- which

abbrev IsNew : Text → List Place → Point → Type 0
IsNew region places point = (place : Place) × Among place places × (is_exchange place.stop ≡ true) × (point ≡ new_point region place.stop place.change)

one_back : (region : Text) (points : List Point) (place : Place) (point : Point) (b : Bool) → is_exchange place.stop ≡ b
    → Among point (cond b (with_point points (new_point region place.stop place.change)) points)
    → Among point points ⊎ ((is_exchange place.stop ≡ true) × (point ≡ new_point region place.stop place.change))
one_back region points place point true e h = elim (among_insert_or point points _ (new_point region place.stop place.change) h) [ inl old ↦ inl old | inr new ↦ inr (e, new) ]
one_back region points place point false e h = inl h

among_back : (region : Text) (points : List Point) (places : List Place) (point : Point) → Among point (points_after region points places) → Among point points ⊎ IsNew region places point
among_back region points [] point h = inl h
among_back region points (place ∷ places) point h = elim (among_back region (one_more region points place) places point h) [
  | inl old ↦ elim (one_back region points place point (is_exchange place.stop) refl old) [
    | inl before ↦ inl before
    | inr new ↦ inr (place, inl refl, new.0, new.1)
  ]
  | inr later ↦ inr (later.0, inr later.1, later.2, later.3)
]

one_kept : (region : Text) (points : List Point) (place : Place) (point : Point) (b : Bool) → Among point points → Among point (cond b (with_point points (new_point region place.stop place.change)) points)
one_kept region points place point true h = among_insert point points _ (new_point region place.stop place.change) h
one_kept region points place point false h = h

kept : (region : Text) (points : List Point) (places : List Place) (point : Point) → Among point points → Among point (points_after region points places)
kept region points [] point h = h
kept region points (place ∷ places) point h = kept region (one_more region points place) places point (one_kept region points place point (is_exchange place.stop) h)

one_added : (region : Text) (points : List Point) (place : Place) (b : Bool) → b ≡ true → Among (new_point region place.stop place.change) (cond b (with_point points (new_point region place.stop place.change)) points)
one_added region points place true e = among_inserted points _ (new_point region place.stop place.change)
one_added region points place false e = absurd (true≢false (sym e))

added : (region : Text) (points : List Point) (places : List Place) (place : Place) → Among place places → is_exchange place.stop ≡ true → Among (new_point region place.stop place.change) (points_after region points places)
added region points [] place h e = absurd h
added region points (first ∷ places) place (inl is) e =
    kept region (one_more region points first) places (new_point region place.stop place.change)
    (subst (λ (p : Place). Among (new_point region place.stop place.change) (one_more region points p)) is (one_added region points place (is_exchange place.stop) e))
added region points (first ∷ places) place (inr later) e = added region (one_more region points first) places place later e

-- ---- in which order

-- none of the points is at one of the places
abbrev AreApart : List Point → List Place → Type 0
AreApart points [] = Unit {0}
AreApart points (place ∷ places) = Each (λ (point : Point). same place.stop point.stop ≡ false) points × AreApart points places

one_rises : (region : Text) (points : List Point) (place : Place) (b : Bool) → Each (λ (point : Point). same place.stop point.stop ≡ false) points → IsRising point_lt points
    → IsRising point_lt (cond b (with_point points (new_point region place.stop place.change)) points)
one_rises region points place true apart rises = points_rise (new_point region place.stop place.change) points apart rises
one_rises region points place false apart rises = rises

one_apart : (region : Text) (points : List Point) (place other : Place) (b : Bool) → place.stop ≢ other.stop → Each (λ (point : Point). same other.stop point.stop ≡ false) points
    → Each (λ (point : Point). same other.stop point.stop ≡ false) (cond b (with_point points (new_point region place.stop place.change)) points)
one_apart region points place other true differ apart =
    each_insert (λ (point : Point). same other.stop point.stop ≡ false) points _ (new_point region place.stop place.change) (is_differ other.stop place.stop (λ e. differ (sym e))) apart
one_apart region points place other false differ apart = apart

all_apart : (region : Text) (points : List Point) (place : Place) (places : List Place) → Each (λ (other : Place). place.stop ≢ other.stop) places → AreApart points places → AreApart (one_more region points place) places
all_apart region points place [] differ apart = tt
all_apart region points place (other ∷ places) differ apart =
    (one_apart region points place other (is_exchange place.stop) differ.0 apart.0, all_apart region points place places differ.1 apart.1)

all_rise : (region : Text) (points : List Point) (places : List Place) → HaveOwn (λ (place : Place). place.stop) places → AreApart points places → IsRising point_lt points
    → IsRising point_lt (points_after region points places)
all_rise region points [] own apart rises = rises
all_rise region points (place ∷ places) own apart rises =
    all_rise region (one_more region points place) places own.1 (all_apart region points place places own.0 apart.1) (one_rises region points place (is_exchange place.stop) apart.0 rises)

none_apart : (places : List Place) → AreApart [] places
none_apart [] = tt
none_apart (place ∷ places) = (tt, none_apart places)

-- ---- two lists that rise and have the same points are one

never : (x y : Point) → point_lt x y ≡ true → point_lt y x ≡ true → ⊥
never x y h k = true≢false (sym (lt_carried x.stop y.stop x.stop h k) ∙ not_before_itself x.stop)

itself : (x y : Point) → point_lt x y ≡ true → y ≡ x → ⊥
itself x y h e = never x y h (subst (λ (p : Point). point_lt p x ≡ true) (sym e) (subst (λ (p : Point). point_lt x p ≡ true) e h))

heads : (x y : Point) (xs ys : List Point) → Each (λ (p : Point). point_lt x p ≡ true) xs → Each (λ (p : Point). point_lt y p ≡ true) ys → Among x (y ∷ ys) → Among y (x ∷ xs) → x ≡ y
heads x y xs ys later after (inl e) k = e
heads x y xs ys later after (inr h) (inl e) = sym e
heads x y xs ys later after (inr h) (inr k) = absurd (never x y (each_at (λ (p : Point). point_lt x p ≡ true) y xs later k) (each_at (λ (p : Point). point_lt y p ≡ true) x ys after h))

in_tail : (x : Point) (xs : List Point) (p : Point) → point_lt x p ≡ true → Among p (x ∷ xs) → Among p xs
in_tail x xs p h (inl e) = absurd (itself x p h e)
in_tail x xs p h (inr k) = k

pub one_list : (xs ys : List Point) → IsRising point_lt xs → IsRising point_lt ys → ((p : Point) → Among p xs → Among p ys) → ((p : Point) → Among p ys → Among p xs) → xs ≡ ys
one_list [] [] rises climbs there back = refl
one_list [] (y ∷ ys) rises climbs there back = absurd (back y (inl refl))
one_list (x ∷ xs) [] rises climbs there back = absurd (there x (inl refl))
one_list (x ∷ xs) (y ∷ ys) rises climbs there back =
    let e = heads x y xs ys rises.0 climbs.0 (there x (inl refl)) (back y (inl refl)) in
    let tails = one_list xs ys rises.1 climbs.1
    (λ p h. in_tail y ys p (subst (λ (q : Point). point_lt q p ≡ true) e (each_at (λ (q : Point). point_lt x q ≡ true) p xs rises.0 h)) (there p (inr h)))
    (λ p h. in_tail x xs p (subst (λ (q : Point). point_lt q p ≡ true) (sym e) (each_at (λ (q : Point). point_lt y q ≡ true) p ys climbs.0 h)) (back p (inr h))) in
    ap (λ (p : Point). p ∷ xs) e ∙ ap (λ (ps : List Point). y ∷ ps) tails

bare_each : (x : Point) (points : List Point) → Each (λ (p : Point). point_lt x p ≡ true) points → Each (λ (p : Point). point_lt (bare x) p ≡ true) (map bare points)
unfolding bare
bare_each x [] h = tt
bare_each x (p ∷ points) h = (h.0, bare_each x points h.1)

bare_rise : (points : List Point) → IsRising point_lt points → IsRising point_lt (map bare points)
unfolding bare
bare_rise [] h = tt
bare_rise (p ∷ points) h = (bare_each p points h.0, bare_rise points h.1)

-- ---- the points of well places

bare_is : (region : Text) (point : Point) (place : Place) → point.region ≡ region → IsAt point place → bare point ≡ new_point region place.stop place.change
unfolding bare
bare_is region point place of at =
    ap (λ (r : Text). new_point r point.stop point.change) of
    ∙ (ap (λ (s : Text). new_point region s point.change) at.0 ∙ ap (λ (c : ℕ). new_point region place.stop c) at.1)

pub points_are : (region : Text) (places : List Place) (points : List Point) → HaveOwn (λ (place : Place). place.stop) places → AreWellPoints region points
    → ((place : Place) → Among place places → is_exchange place.stop ≡ true → (point : Point) × Among point points × IsAt point place)
    → ((point : Point) → Among point points → (place : Place) × Among place places × IsAt point place)
    → points_after region [] places ≡ map bare points
points_are region places points own well shared placed =
    one_list (points_after region [] places) (map bare points) (all_rise region [] places own (none_apart places) tt) (bare_rise points well.rising)
    (λ p h. elim (among_back region [] places p h) [
      | inl none ↦ absurd none
      | inr new ↦
          let at = shared new.0 new.1 new.2 in
          let of = (each_at (IsPointOf region) at.0 points well.each at.1).of_region in
          subst (λ (q : Point). Among q (map bare points)) (bare_is region at.0 new.0 of at.2 ∙ sym new.3) (among_map bare at.0 points at.1)
    ])
    (λ p h.
    let from = among_map_back bare p points h in
    let is = each_at (IsPointOf region) from.item points well.each from.among in
    let at = placed from.item from.among in
    subst (λ (q : Point). Among q (points_after region [] places)) (sym (from.holds ∙ bare_is region from.item at.0 is.of_region at.2))
    (added region [] places at.0 at.1 (ap is_exchange (sym at.2.0) ∙ is.exchange)))

pub shared_few : (region : Text) (places : List Place) (points : List Point) → points_after region [] places ≡ map bare points → length points ≤ 255 → shared_in places ≤ 255
shared_few region places points e h =
    let size = length-points_after region [] places in
    omega (arith, size, ap length e, length-bare points, h)
  where
    length-bare : (ps : List Point) → length (map bare ps) ≡ length ps
    length-bare [] = refl
    length-bare (p ∷ ps) = omega (arith, length-bare ps)
