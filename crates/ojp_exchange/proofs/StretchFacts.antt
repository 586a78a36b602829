-- The points at a stop stand together.
use Rattle.std.proofs.Common.{◌≡◌, ℕ, zero, suc, ◌+◌, ◌-◌, ◌<◌, ◌≤◌, ◌&&◌, Bool, true, false, cond, List, [], ◌∷◌, Some, length, map, take, drop, refl, sym, ◌∙◌, ap, subst, arith, slice_get, slice_range, inl, inr, true≢false}
use Rattle.std.specs.List.{filter}
use Rattle.std.proofs.lemmas.Bool.{cases_Bool, cases_lt, or_cases}
use Rattle.std.proofs.lemmas.Option.{slice_get_within}
use Rattle.std.proofs.Math.Nat.{eq-or-lt_of_le}
use Rattle.ojp_values.proofs.EachFacts.{up_to}
use Rattle.ojp_values.specs.Lists.{IsRising}
use Rattle.ojp_values.specs.Texts.{Text, same, text_lt}
use Rattle.ojp_values.specs.declared.trips.Point.{Point}
use Rattle.ojp_timetable.proofs.Orders.{both, not_before_itself}
use Rattle.ojp_timetable.proofs.PointOrder.{lt_carried, lt_other}
use Rattle.ojp_timetable.proofs.ReadFacts.{at_among, read_once}
use Rattle.ojp_timetable.proofs.TextFacts.{is_same, same_is}
use Rattle.ojp_exchange.specs.Book.{Spot}
use Rattle.ojp_exchange.specs.Kept.{HasNoPoint, IsPointAt, book_of, entry_lt, regions_of, spot_of}
use Rattle.ojp_exchange.specs.Points.{AreParted, IsStretch}
use Rattle.ojp_exchange.proofs.RisingFacts.{rising_at}

-- the points before low are at earlier stops, and those from high on are not
pub record ArePartedBy (points : List Point) (stop : Text) (low high : ℕ) : Type 0 where
  pub order : low ≤ high
  pub within : high ≤ length points
  pub below : (k : ℕ) (x : Point) → slice_get points k ≡ Some x → k < low → text_lt x.stop stop ≡ true
  pub above : (k : ℕ) (x : Point) → slice_get points k ≡ Some x → high ≤ k → text_lt x.stop stop ≡ false

-- a later point is at the same stop or at a later one
pub stop_before : (x y : Point) (stop : Text) → entry_lt x y ≡ true → text_lt y.stop stop ≡ true → text_lt x.stop stop ≡ true
stop_before x y stop h k = elim (or_cases (text_lt x.stop y.stop) (same x.stop y.stop && text_lt x.region y.region) h) [
  | inl l ↦ lt_carried x.stop y.stop stop l k
  | inr s ↦ subst (λ (t : Text). text_lt t stop ≡ true) (sym (same_is x.stop y.stop (both (same x.stop y.stop) (text_lt x.region y.region) s).0)) k
]

pub part_open : (points : List Point) (stop : Text) (high : ℕ) → high ≡ length points → ArePartedBy points stop 0 high
part_open points stop high e = record {
  order = omega arith;
  within = omega (arith, e);
  below = λ k x a l. absurd (omega (arith, l));
  above = λ k x a l. absurd (omega (arith, l, e, slice_get_within points k x a));
}

pub part_upper : (points : List Point) (stop : Text) (low high middle : ℕ) (at : Point) → IsRising entry_lt points → ArePartedBy points stop low high → middle < high → slice_get points middle ≡ Some at
    → text_lt at.stop stop ≡ true → ArePartedBy points stop (middle + 1) high
part_upper points stop low high middle at rise part inside read before = record {
  order = omega (arith, inside);
  within = part.within;
  below = λ k x a l. elim (eq-or-lt_of_le (up_to k middle l)) [
    | inl e ↦ subst (λ (y : Point). text_lt y.stop stop ≡ true) (read_once points middle k at x (sym e) read a) before
    | inr m ↦ stop_before x at stop (rising_at entry_lt points k middle x at rise a read m) before
  ];
  above = part.above;
}

pub part_lower : (points : List Point) (stop : Text) (low high middle : ℕ) (at : Point) → IsRising entry_lt points → ArePartedBy points stop low high → low ≤ middle → middle < high → slice_get points middle ≡ Some at
    → text_lt at.stop stop ≡ false → ArePartedBy points stop low middle
part_lower points stop low high middle at rise part from inside read behind = record {
  order = from;
  within = omega (arith, inside, part.within);
  below = part.below;
  above = λ k x a l. elim (eq-or-lt_of_le l) [
    | inl e ↦ subst (λ (y : Point). text_lt y.stop stop ≡ false) (read_once points middle k at x e read a) behind
    | inr m ↦ elim (cases_Bool (text_lt x.stop stop)) [
      | inl t ↦ absurd (true≢false (sym (stop_before at x stop (rising_at entry_lt points middle k at x rise read a m) t) ∙ behind))
      | inr t ↦ t
    ]
  ];
}

pub parted : (points : List Point) (stop : Text) (low high : ℕ) → ArePartedBy points stop low high → high ≤ low → AreParted points stop low
parted points stop low high part done = record {
  within = omega (arith, part.order, part.within, done);
  below = part.below;
  above = λ k x a l. part.above k x a (omega (arith, l, done));
}

earlier_other : (x : Point) (stop : Text) → text_lt x.stop stop ≡ true → same stop x.stop ≡ false
earlier_other x stop h = elim (cases_Bool (same stop x.stop)) [
  | inl t ↦ absurd (true≢false (sym (subst (λ (s : Text). text_lt x.stop s ≡ true) (same_is stop x.stop t) h) ∙ not_before_itself x.stop))
  | inr t ↦ t
]

-- the first point at another stop ends the stretch
pub stretch_to : (points : List Point) (stop : Text) (from i : ℕ) (at : Point) → IsRising entry_lt points → AreParted points stop from → from ≤ i → slice_get points i ≡ Some at → same stop at.stop ≡ false
    → ((k : ℕ) (x : Point) → slice_get points k ≡ Some x → from ≤ k → k < i → same stop x.stop ≡ true) → IsStretch points stop from i
stretch_to points stop from i at rise part order read other inside =
    let later : text_lt stop at.stop ≡ true = lt_other at.stop stop (not_same at.stop stop other) (part.above i at read order) in
    record {
      order = order;
      within = omega (arith, slice_get_within points i at read);
      before = λ k x a l. earlier_other x stop (part.below k x a l);
      inside = inside;
      behind = λ k x a l. elim (eq-or-lt_of_le l) [
        | inl e ↦ subst (λ (y : Point). same stop y.stop ≡ false) (read_once points i k at x e read a) other
        | inr m ↦ elim (cases_Bool (same stop x.stop)) [
          | inl t ↦
              let up : text_lt x.stop at.stop ≡ true = subst (λ (s : Text). text_lt s at.stop ≡ true) (same_is stop x.stop t) later in
              let down = stop_before at x at.stop (rising_at entry_lt points i k at x rise read a m) up in
              absurd (true≢false (sym down ∙ not_before_itself at.stop))
          | inr t ↦ t
        ]
      ];
    }
  where
    not_same : (a b : Text) → same b a ≡ false → same a b ≡ false
    not_same a b h = elim (cases_Bool (same a b)) [ inl t ↦ absurd (true≢false (sym (is_same b a (sym (same_is a b t))) ∙ h)) | inr t ↦ t ]

pub stretch_end : (points : List Point) (stop : Text) (from i : ℕ) → AreParted points stop from → from ≤ i → i ≡ length points
    → ((k : ℕ) (x : Point) → slice_get points k ≡ Some x → from ≤ k → k < i → same stop x.stop ≡ true) → IsStretch points stop from i
stretch_end points stop from i part order e inside = record {
  order = order;
  within = omega (arith, e);
  before = λ k x a l. earlier_other x stop (part.below k x a l);
  inside = inside;
  behind = λ k x a l. absurd (omega (arith, l, e, slice_get_within points k x a));
}

-- the point behind one of the stretch is of it too, if the stretch goes on
pub stretch_next : (points : List Point) (place from to : ℕ) (here : Point) → slice_get points place ≡ Some here → IsStretch points here.stop from to
    → (place + 1 ≤ to) × ((next : Point) → slice_get points (place + 1) ≡ Some next → place + 1 < to → IsStretch points next.stop from to)
stretch_next points place from to here at stretch = (
  inside,
  (λ next read less.
      let is = same_is here.stop next.stop (stretch.inside (place + 1) next read (omega (arith, low)) less) in
      subst (λ (stop : Text). IsStretch points stop from to) is stretch),
)
  where
    low : from ≤ place
    low = elim (cases_lt place from) [ inl l ↦ absurd (true≢false (sym (is_same here.stop here.stop refl) ∙ stretch.before place here at l)) | inr g ↦ g ]

    inside : place + 1 ≤ to
    inside = elim (cases_lt place to) [ inl l ↦ omega (arith, l) | inr g ↦ absurd (true≢false (sym (is_same here.stop here.stop refl) ∙ stretch.behind place here at g)) ]

-- a point of the region within the stretch is that of the region at the stop
pub in_stretch : (points : List Point) (stop region : Text) (from to place : ℕ) (at : Point) → IsStretch points stop from to → slice_get points place ≡ Some at → from ≤ place → place < to
    → at.region ≡ region → IsPointAt points stop region place
in_stretch points stop region from to place at stretch read low less is =
    record { point = at; at = read; stop_is = sym (same_is stop at.stop (stretch.inside place at read low less)); region_is = is }

-- a region without a point within the stretch has none at the stop
pub none_within : (points : List Point) (stop region : Text) (from to : ℕ) → IsStretch points stop from to
    → ((k : ℕ) (x : Point) → slice_get points k ≡ Some x → from ≤ k → k < to → x.region ≡ region → ⊥) → HasNoPoint points stop region
none_within points stop region from to stretch none point a s r =
    let at = at_among points point a in
    let here = is_same stop point.stop (sym s) in
    elim (cases_lt at.0 from) [
      | inl l ↦ absurd (true≢false (sym here ∙ stretch.before at.0 point at.1 l))
      | inr low ↦ elim (cases_lt at.0 to) [
        | inl l ↦ none at.0 point at.1 low l r
        | inr g ↦ absurd (true≢false (sym here ∙ stretch.behind at.0 point at.1 g))
      ]
    ]

-- ---- the regions of the stretch

abbrev regions_in : Text → List Point → List Text
regions_in stop points = map (λ (spot : Spot). spot.region) (filter (λ (spot : Spot). same stop spot.stop) (map spot_of points))

region_case : (b : Bool) (x : Point) (rest : List Spot) (c : Bool) → b ≡ c → map (λ (spot : Spot). spot.region) (cond b (spot_of x ∷ rest) rest) ≡ cond c (x.region ∷ map (λ (spot : Spot). spot.region) rest) (map (λ (spot : Spot). spot.region) rest)
region_case true x rest true e = refl
region_case true x rest false e = absurd (true≢false e)
region_case false x rest true e = absurd (true≢false (sym e))
region_case false x rest false e = refl

cut : (stop : Text) (xs : List Point) (a b : ℕ) → a ≤ b → b ≤ length xs → ((k : ℕ) (x : Point) → slice_get xs k ≡ Some x → k < a → same stop x.stop ≡ false)
    → ((k : ℕ) (x : Point) → slice_get xs k ≡ Some x → a ≤ k → k < b → same stop x.stop ≡ true) → ((k : ℕ) (x : Point) → slice_get xs k ≡ Some x → b ≤ k → same stop x.stop ≡ false)
    → regions_in stop xs ≡ slice_range (map (λ (point : Point). point.region) xs) a b
cut stop [] zero zero o w before inside behind = refl
cut stop [] zero (suc b) o w before inside behind = absurd (omega (arith, w))
cut stop [] (suc a) b o w before inside behind = absurd (omega (arith, o, w))
cut stop (x ∷ xs) (suc a) zero o w before inside behind = absurd (omega (arith, o))
cut stop (x ∷ xs) (suc a) (suc b) o w before inside behind =
    let rest = map (λ (point : Point). point.region) xs in
    let n : b - a ≡ suc b - suc a = omega arith in
    region_case (same stop x.stop) x _ false (before zero x refl (omega arith))
    ∙ (cut stop xs a b (omega (arith, o)) (omega (arith, w)) (λ k y r l. before (suc k) y r (omega (arith, l))) (λ k y r l m. inside (suc k) y r (omega (arith, l)) (omega (arith, m)))
    (λ k y r l. behind (suc k) y r (omega (arith, l))) ∙ ap (λ (m : ℕ). take m (drop a rest)) n)
cut stop (x ∷ xs) zero (suc b) o w before inside behind =
    let rest = map (λ (point : Point). point.region) xs in
    let n : suc b - 0 ≡ suc b = omega arith in
    let m : b - 0 ≡ b = omega arith in
    region_case (same stop x.stop) x _ true (inside zero x refl (omega arith) (omega arith))
    ∙ (ap (λ (rs : List Text). x.region ∷ rs)
    (cut stop xs zero b (omega arith) (omega (arith, w)) (λ k y r l. absurd (omega (arith, l))) (λ k y r l m. inside (suc k) y r (omega arith) (omega (arith, m)))
    (λ k y r l. behind (suc k) y r (omega (arith, l))) ∙ ap (λ (j : ℕ). take j rest) m) ∙ sym (ap (λ (j : ℕ). take j (x.region ∷ rest)) n))
cut stop (x ∷ xs) zero zero o w before inside behind =
    region_case (same stop x.stop) x _ false (behind zero x refl (omega arith))
    ∙ cut stop xs zero zero (omega arith) (omega arith) (λ k y r l. absurd (omega (arith, l))) (λ k y r l m. absurd (omega (arith, m))) (λ k y r l. behind (suc k) y r (omega arith))

pub stretch_is : (codes : List Text) (points : List Point) (stop : Text) (from to : ℕ) → IsStretch points stop from to
    → regions_of (book_of codes points) stop ≡ slice_range (map (λ (point : Point). point.region) points) from to
unfolding regions_of
stretch_is codes points stop from to s = cut stop points from to s.order s.within s.before s.inside s.behind
