-- What sorted codes and points of lists make: the book of the lists.
use Rattle.std.proofs.Common.{◌≡◌, ◌≢◌, ℕ, ◌+◌, ◌≤◌, ◌&&◌, ◌||◌, Bool, true, false, cond, List, [], ◌∷◌, ◌++◌, Some, map, refl, sym, ◌∙◌, ap, subst, arith, inl, inr, true≢false}
use Rattle.std.specs.List.{Contains, count_by, flat_map}
use Rattle.std.specs.List.Sorted.{IsPermutation}
use Rattle.std.proofs.lemmas.Bool.{cases_Bool}
use Rattle.std.proofs.lemmas.List.Sorted.{Contains-permutation, IsPermutation-sym, sum_by-IsPermutation}
use Rattle.std.proofs.lemmas.List.Sums.{sum_by-append, sum_by-cons}
use Rattle.std.proofs.lemmas.Option.{get_or_from_slice_get, slice_get-get_or, slice_get_within}
use Rattle.ojp_values.proofs.EachFacts.{each_of}
use Rattle.ojp_values.proofs.ListFacts.{among_append, among_append_left, among_append_right, each_at}
use Rattle.ojp_values.specs.Lists.{Among, Each, IsRising}
use Rattle.ojp_values.specs.Texts.{Text, same, text_lt}
use Rattle.ojp_values.specs.declared.trips.Neighbour.{Neighbour}
use Rattle.ojp_values.specs.declared.trips.Point.{Point}
use Rattle.ojp_timetable.specs.Points.{AreWellPoints, IsPointOf, neighbour_lt, point_lt}
use Rattle.ojp_timetable.proofs.Orders.{and_true, both, text_order}
use Rattle.ojp_timetable.proofs.ReadFacts.{among_at, at_among}
use Rattle.ojp_timetable.proofs.TextFacts.{is_same, same_is, same_itself}
use Rattle.ojp_exchange.specs.declared.region_points.RegionPoints.{RegionPoints}
use Rattle.ojp_exchange.specs.Book.{IsBookOf, Link, Spot, link_lt, spot_lt}
use Rattle.ojp_exchange.specs.Joins.{AreWellLists, HaveOwnCodes, times}
use Rattle.ojp_exchange.specs.Kept.{AreKept, book_of, entry_lt, entry_same, link_of, links_of, spot_of}
use Rattle.ojp_exchange.proofs.RisingFacts.{entry_order}
use Rattle.ojp_exchange.proofs.SortFacts.{NoneBehind, count_more, count_none, count_yes, none_counted, rising_counts, rising_from}

-- ---- a list and its permutation have the same elements

module _ {X : Type 0} where
  among_contains : (xs : List X) (x : X) → Among x xs → Contains xs x
  among_contains xs x a =
      let at = at_among xs x a in
      let within = slice_get_within xs at.0 x at.1 in
      (at.0, within, get_or_from_slice_get xs at.0 x x at.1)

  contains_among : (xs : List X) (x : X) → Contains xs x → Among x xs
  contains_among xs x h = among_at xs h.0 x (slice_get-get_or xs h.0 x h.1 ∙ ap Some h.2)

  pub among_moved : (xs ys : List X) (x : X) → IsPermutation xs ys → Among x xs → Among x ys
  among_moved xs ys x p a = contains_among ys x (Contains-permutation xs ys x p (among_contains xs x a))

  pub among_back : (xs ys : List X) (x : X) → IsPermutation xs ys → Among x ys → Among x xs
  among_back xs ys x p a = among_moved ys xs x (IsPermutation-sym xs ys p) a

  pub among_map : {Y : Type 0} (f : X → Y) (xs : List X) (y : Y) → Among y (map f xs) → (x : X) × Among x xs × (f x ≡ y)
  among_map f [] y a = absurd a
  among_map f (x ∷ xs) y a = elim a [ inl e ↦ (x, inl refl, sym e) | inr t ↦ let r = among_map f xs y t in (r.0, inr r.1, r.2) ]

  pub map_among : {Y : Type 0} (f : X → Y) (xs : List X) (x : X) → Among x xs → Among (f x) (map f xs)
  map_among f [] x a = absurd a
  map_among f (z ∷ xs) x a = elim a [ inl e ↦ inl (ap f e) | inr t ↦ inr (map_among f xs x t) ]

  pub among_flat : {Y : Type 0} (f : X → List Y) (xs : List X) (y : Y) → Among y (flat_map f xs) → (x : X) × Among x xs × Among y (f x)
  among_flat f [] y a = absurd a
  among_flat f (x ∷ xs) y a = elim (among_append y (f x) (flat_map f xs) a) [
    | inl l ↦ (x, inl refl, l)
    | inr r ↦ let found = among_flat f xs y r in (found.0, inr found.1, found.2)
  ]

  pub flat_among : {Y : Type 0} (f : X → List Y) (xs : List X) (x : X) (y : Y) → Among x xs → Among y (f x) → Among y (flat_map f xs)
  flat_among f [] x y a h = absurd a
  flat_among f (z ∷ xs) x y a h = elim a [
    | inl e ↦ among_append_left y (f z) (flat_map f xs) (subst (λ (w : X). Among y (f w)) e h)
    | inr t ↦ among_append_right y (f z) (flat_map f xs) (flat_among f xs x y t h)
  ]

  pub count_map : {Y : Type 0} (f : X → Y) (p : Y → Bool) (xs : List X) → count_by p (map f xs) ≡ count_by (λ x. p (f x)) xs
  count_map f p [] = refl
  count_map f p (x ∷ xs) =
      let one = sum_by-cons (λ (y : _). cond (p y) 1 0) (f x) (map f xs) in
      let two = sum_by-cons (λ (z : X). cond (p (f z)) 1 0) x xs in
      one ∙ (ap (λ (n : ℕ). cond (p (f x)) 1 0 + n) (count_map f p xs) ∙ sym two)

-- ---- the codes

abbrev pub code_list : List RegionPoints → List Text
code_list lists = map (λ (list : RegionPoints). list.code) lists

abbrev pub point_list : List RegionPoints → List Point
point_list lists = flat_map (λ (list : RegionPoints). list.points) lists

pub times_sorted : (lists : List RegionPoints) (codes : List Text) (code : Text) → IsPermutation (code_list lists) codes → count_by (same code) codes ≡ times lists code
times_sorted lists codes code p =
    sum_by-IsPermutation (λ (c : Text). cond (same code c) 1 0) (code_list lists) codes p ∙ count_map (λ (list : RegionPoints). list.code) (same code) lists

pub own_codes : (lists : List RegionPoints) (codes : List Text) → IsPermutation (code_list lists) codes → IsRising text_lt codes → HaveOwnCodes lists
own_codes lists codes p rise code =
    let few = rising_counts text_lt same (text_order (λ (t : Text). t)) codes rise code in
    omega (arith, few, times_sorted lists codes code p)

-- ---- the points

pub region_in : (lists : List RegionPoints) (point : Point) → AreWellLists lists → Among point (point_list lists) → (list : RegionPoints) × Among list lists × Among point list.points × (point.region ≡ list.code)
region_in lists point well a =
    let found = among_flat (λ (list : RegionPoints). list.points) lists point a in
    let good = each_at (λ (list : RegionPoints). AreWellPoints list.code list.points) found.0 lists well found.1 in
    (found.0, found.1, found.2, (each_at (IsPointOf found.0.code) point found.0.points good.each found.2).of_region)

entries_rise : (points : List Point) → IsRising point_lt points → IsRising entry_lt points
entries_rise [] h = tt
entries_rise (x ∷ xs) h = (each_of (λ (y : Point). entry_lt x y ≡ true) xs (λ y a. or_left (text_lt x.stop y.stop) _ (each_at (λ (w : Point). point_lt x w ≡ true) y xs h.0 a)), entries_rise xs h.1)
  where
    or_left : (a b : Bool) → a ≡ true → a || b ≡ true
    or_left true b h = refl
    or_left false b h = absurd (true≢false (sym h))

-- two points of other regions do not tie
apart_regions : (z x : Point) → z.region ≢ x.region → entry_same z x ≡ false
apart_regions z x h = elim (cases_Bool (entry_same z x)) [
  | inl t ↦ absurd (h (same_is z.region x.region (both (same z.stop x.stop) (same z.region x.region) t).1))
  | inr t ↦ t
]

pub one_each : (lists : List RegionPoints) (z : Point) → AreWellLists lists → HaveOwnCodes lists → count_by (entry_same z) (point_list lists) ≤ 1
one_each [] z well own = omega arith
one_each (l ∷ ls) z well own =
    let rest = point_list ls in
    let sum = sum_by-append (λ (x : Point). cond (entry_same z x) 1 0) l.points rest in
    let fewer : HaveOwnCodes ls = λ code. omega (arith, own code, count_more (λ (list : RegionPoints). same code list.code) l ls) in
    elim (cases_Bool (same z.region l.code)) [
      | inl t ↦
          let here : z.region ≡ l.code = same_is z.region l.code t in
          let alone : times ls l.code ≤ 0 = omega (arith, own l.code, count_yes (λ (list : RegionPoints). same l.code list.code) l ls (same_itself l.code)) in
          let none = count_none (entry_same z) rest (λ x a.
          let found = region_in ls x well.1 a in
          let other : same l.code found.0.code ≡ false = none_counted (λ (list : RegionPoints). same l.code list.code) ls found.0 alone found.1 in
          apart_regions z x (λ e. true≢false (sym (is_same l.code found.0.code (sym here ∙ (e ∙ found.3))) ∙ other))) in
          let few = rising_counts entry_lt entry_same entry_order l.points (entries_rise l.points well.0.rising) z in
          omega (arith, sum, none, few)
      | inr t ↦
          let none = count_none (entry_same z) l.points (λ x a.
          apart_regions z x (λ e. true≢false (sym (is_same z.region l.code (e ∙ (each_at (IsPointOf l.code) x l.points well.0.each a).of_region)) ∙ t))) in
          let few = one_each ls z well.1 fewer in
          omega (arith, sum, none, few)
    ]

pub points_rise : (lists : List RegionPoints) (points : List Point) → AreWellLists lists → HaveOwnCodes lists → IsPermutation (point_list lists) points → NoneBehind entry_lt points → IsRising entry_lt points
points_rise lists points well own p sorted =
    rising_from entry_lt entry_same entry_order points sorted
    (λ z. let few = one_each lists z well own in omega (arith, few, sum_by-IsPermutation (λ (x : Point). cond (entry_same z x) 1 0) (point_list lists) points p))

-- ---- the lists of the book rise

pub spots_rise : (points : List Point) → IsRising entry_lt points → IsRising spot_lt (map spot_of points)
spots_rise [] h = tt
spots_rise (x ∷ xs) h = (
  each_of (λ (s : Spot). spot_lt (spot_of x) s ≡ true) (map spot_of xs) (λ s a.
      let at = among_map spot_of xs s a in
      subst (λ (t : Spot). spot_lt (spot_of x) t ≡ true) at.2 (each_at (λ (w : Point). entry_lt x w ≡ true) at.0 xs h.0 at.1)),
  spots_rise xs h.1,
)

pub later_point : (x y : Point) (m n : Neighbour) → entry_lt x y ≡ true → link_lt (link_of x m) (link_of y n) ≡ true
later_point x y m n h = lift (text_lt x.stop y.stop) (same x.stop y.stop) (text_lt x.region y.region) _ h
  where
    lift : (a b c d : Bool) → a || (b && c) ≡ true → a || (b && (c || d)) ≡ true
    lift true b c d h = refl
    lift false true true d h = refl
    lift false true false d h = absurd (true≢false (sym h))
    lift false false c d h = absurd (true≢false (sym h))

pub later_neighbour : (x : Point) (m n : Neighbour) → neighbour_lt m n ≡ true → link_lt (link_of x m) (link_of x n) ≡ true
later_neighbour x m n h = lift (text_lt x.stop x.stop) (same x.stop x.stop) (text_lt x.region x.region) (same x.region x.region) (text_lt m.code n.code) (same_itself x.stop) (same_itself x.region) h
  where
    lift : (a b c d e : Bool) → b ≡ true → d ≡ true → e ≡ true → a || (b && (c || (d && e))) ≡ true
    lift true b c d e p q r = refl
    lift false b true d e p q r = subst (λ (t : Bool). t && true ≡ true) (sym p) refl
    lift false b false d e p q r = and_true b (d && e) p (and_true d e q r)

links_here : (x : Point) (neighbours : List Neighbour) → IsRising neighbour_lt neighbours → IsRising link_lt (map (link_of x) neighbours)
links_here x [] h = tt
links_here x (n ∷ ns) h = (
  each_of (λ (l : Link). link_lt (link_of x n) l ≡ true) (map (link_of x) ns) (λ l a.
      let at = among_map (link_of x) ns l a in
      subst (λ (t : Link). link_lt (link_of x n) t ≡ true) at.2 (later_neighbour x n at.0 (each_at (λ (w : Neighbour). neighbour_lt n w ≡ true) at.0 ns h.0 at.1))),
  links_here x ns h.1,
)

rise_append : (xs ys : List Link) → IsRising link_lt xs → IsRising link_lt ys → ((x y : Link) → Among x xs → Among y ys → link_lt x y ≡ true) → IsRising link_lt (xs ++ ys)
rise_append [] ys a b h = b
rise_append (x ∷ xs) ys a b h = (
  each_of (λ (l : Link). link_lt x l ≡ true) (xs ++ ys) (λ l i. elim (among_append l xs ys i) [
    | inl k ↦ each_at (λ (w : Link). link_lt x w ≡ true) l xs a.0 k
    | inr k ↦ h x l (inl refl) k
  ]),
  rise_append xs ys a.1 b (λ z y i k. h z y (inr i) k),
)

pub links_rise : (points : List Point) → IsRising entry_lt points → Each (λ (x : Point). IsPointOf x.region x) points → IsRising link_lt (flat_map links_of points)
links_rise [] h own = tt
links_rise (x ∷ xs) h own =
    rise_append (links_of x) (flat_map links_of xs) (links_here x x.neighbours own.0.rising) (links_rise xs h.1 own.1)
    (λ l k a b.
    let from = among_map (link_of x) x.neighbours l a in
    let at = among_flat links_of xs k b in
    let to = among_map (link_of at.0) at.0.neighbours k at.2 in
    subst (λ (t : Link). link_lt t k ≡ true) from.2 (subst (λ (t : Link). link_lt (link_of x from.0) t ≡ true) to.2
    (later_point x at.0 from.0 to.0 (each_at (λ (w : Point). entry_lt x w ≡ true) at.0 xs h.0 at.1))))

-- ---- the book of the lists

pub is_book : (lists : List RegionPoints) (codes : List Text) (points : List Point) → AreWellLists lists → IsPermutation (code_list lists) codes → IsPermutation (point_list lists) points
    → AreKept codes points → IsBookOf lists (book_of codes points)
is_book lists codes points well pc pp kept = record {
  codes = λ code. (
    (λ a. let at = among_map (λ (l : RegionPoints). l.code) lists code (among_back (code_list lists) codes code pc a) in (at.0, at.1, at.2)),
    (λ has. among_moved (code_list lists) codes code pc (subst (λ (t : Text). Among t (code_list lists)) has.2 (map_among (λ (l : RegionPoints). l.code) lists has.0 has.1))),
  );
  spots = λ spot. (
    (λ a.
        let at = among_map spot_of points spot a in
        let of = region_in lists at.0 well (among_back (point_list lists) points at.0 pp at.1) in
        record {
          list = of.0;
          of_lists = of.1;
          code = sym of.3 ∙ ap (λ (s : Spot). s.region) at.2;
          point = at.0;
          listed = of.2;
          at = ap (λ (s : Spot). s.stop) at.2;
          time = ap (λ (s : Spot). s.change) at.2;
        }),
    (λ has.
        let here = among_moved (point_list lists) points has.point pp (flat_among (λ (l : RegionPoints). l.points) lists has.list has.point has.of_lists has.listed) in
        let of = each_at (IsPointOf has.list.code) has.point has.list.points (each_at (λ (l : RegionPoints). AreWellPoints l.code l.points) has.list lists well has.of_lists).each has.listed in
        let is : spot_of has.point ≡ spot = λ i. record { stop = has.at i; region = (of.of_region ∙ has.code) i; change = has.time i } in
        subst (λ (s : Spot). Among s (map spot_of points)) is (map_among spot_of points has.point here)),
  );
  links = λ link. (
    (λ a.
        let at = among_flat links_of points link a in
        let of = region_in lists at.0 well (among_back (point_list lists) points at.0 pp at.1) in
        let by = among_map (link_of at.0) at.0.neighbours link at.2 in
        record {
          list = of.0;
          of_lists = of.1;
          code = sym of.3 ∙ ap (λ (l : Link). l.region) by.2;
          point = at.0;
          listed = of.2;
          at = ap (λ (l : Link). l.stop) by.2;
          neighbour = by.0;
          declared = by.1;
          other = ap (λ (l : Link). l.other) by.2;
          time = ap (λ (l : Link). l.change) by.2;
        }),
    (λ has.
        let here = among_moved (point_list lists) points has.point pp (flat_among (λ (l : RegionPoints). l.points) lists has.list has.point has.of_lists has.listed) in
        let of = each_at (IsPointOf has.list.code) has.point has.list.points (each_at (λ (l : RegionPoints). AreWellPoints l.code l.points) has.list lists well has.of_lists).each has.listed in
        let is : link_of has.point has.neighbour ≡ link = λ i. record { stop = has.at i; region = (of.of_region ∙ has.code) i; other = has.other i; change = has.time i } in
        subst (λ (l : Link). Among l (flat_map links_of points)) is
        (flat_among links_of points has.point (link_of has.point has.neighbour) here (map_among (link_of has.point) has.point.neighbours has.neighbour has.declared))),
  );
  codes_rise = kept.codes_rise;
  spots_rise = spots_rise points kept.rise;
  links_rise = links_rise points kept.rise kept.own;
}
