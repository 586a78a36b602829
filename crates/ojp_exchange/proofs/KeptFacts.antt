-- What a book keeps of the lists; a region of the lists has at most 255 points among all.
use Rattle.std.proofs.Common.{◌≡◌, ◌≤◌, Bool, false, cond, List, [], ◌∷◌, subst, sym, ◌∙◌, arith, inl, inr, true≢false}
use Rattle.std.specs.List.{count_by}
use Rattle.std.specs.List.Sorted.{IsPermutation}
use Rattle.std.proofs.lemmas.Bool.{cases_Bool}
use Rattle.std.proofs.lemmas.List.Sorted.{sum_by-IsPermutation}
use Rattle.std.proofs.lemmas.List.Sums.{sum_by-append}
use Rattle.ojp_values.proofs.ListFacts.{each_at}
use Rattle.ojp_values.proofs.EachFacts.{each_of}
use Rattle.ojp_values.specs.Limits.{IsWellPoint}
use Rattle.ojp_values.specs.Lists.{Among, IsRising}
use Rattle.ojp_values.specs.Texts.{Text, same, text_lt}
use Rattle.ojp_values.specs.declared.trips.Point.{Point}
use Rattle.ojp_timetable.specs.Points.{AreWellPoints, IsPointOf}
use Rattle.ojp_timetable.proofs.TextFacts.{is_same, same_is}
use Rattle.ojp_exchange.specs.declared.region_points.RegionPoints.{RegionPoints}
use Rattle.ojp_exchange.specs.Joins.{AreWellLists, HaveOwnCodes, times}
use Rattle.ojp_exchange.specs.Kept.{AreKept, entry_lt}
use Rattle.ojp_exchange.proofs.MadeFacts.{among_back, among_moved, code_list, map_among, own_codes, point_list, region_in}
use Rattle.ojp_exchange.proofs.SortFacts.{count_more, count_within, count_none, count_yes, none_counted}

-- the point is one of the region
abbrev of_region : Text → Point → Bool
of_region region point = same region point.region

few_listed : (lists : List RegionPoints) (region : Text) → AreWellLists lists → HaveOwnCodes lists → count_by (of_region region) (point_list lists) ≤ 255
few_listed [] region well own = omega arith
few_listed (l ∷ ls) region well own =
    let rest = point_list ls in
    let sum = sum_by-append (λ (x : Point). cond (of_region region x) 1 0) l.points rest in
    let fewer : HaveOwnCodes ls = λ code. omega (arith, own code, count_more (λ (list : RegionPoints). same code list.code) l ls) in
    elim (cases_Bool (same region l.code)) [
      | inl t ↦
          let alone : times ls region ≤ 0 = omega (arith, own region, count_yes (λ (list : RegionPoints). same region list.code) l ls t) in
          let none = count_none (of_region region) rest (λ x a.
          let found = region_in ls x well.1 a in
          let other : same region found.0.code ≡ false = none_counted (λ (list : RegionPoints). same region list.code) ls found.0 alone found.1 in
          not_of region x (λ e. true≢false (sym (is_same region found.0.code (e ∙ found.3)) ∙ other))) in
          omega (arith, sum, none, count_within (of_region region) l.points, well.0.few)
      | inr t ↦
          let none = count_none (of_region region) l.points (λ x a.
          not_of region x (λ e. true≢false (sym (is_same region l.code (e ∙ (each_at (IsPointOf l.code) x l.points well.0.each a).of_region)) ∙ t))) in
          omega (arith, sum, none, few_listed ls region well.1 fewer)
    ]
  where
    not_of : (r : Text) (x : Point) → (r ≡ x.region → ⊥) → of_region r x ≡ false
    not_of r x h = elim (cases_Bool (of_region r x)) [ inl t ↦ absurd (h (same_is r x.region t)) | inr t ↦ t ]

pub few_kept : (lists : List RegionPoints) (points : List Point) (region : Text) → AreWellLists lists → HaveOwnCodes lists → IsPermutation (point_list lists) points → count_by (of_region region) points ≤ 255
few_kept lists points region well own p =
    omega (arith, few_listed lists region well own, sum_by-IsPermutation (λ (x : Point). cond (of_region region x) 1 0) (point_list lists) points p)

-- ---- what is kept

pub are_kept : (lists : List RegionPoints) (codes : List Text) (points : List Point) → AreWellLists lists → IsPermutation (code_list lists) codes → IsPermutation (point_list lists) points
    → IsRising text_lt codes → IsRising entry_lt points → AreKept codes points
are_kept lists codes points well pc pp codes_rise rise =
    let of : (x : Point) → Among x points → (list : RegionPoints) × Among list lists × Among x list.points × (x.region ≡ list.code) =
    λ x a. region_in lists x well (among_back (point_list lists) points x pp a) in
    let good : (list : RegionPoints) → Among list lists → AreWellPoints list.code list.points = λ list a. each_at (λ (l : RegionPoints). AreWellPoints l.code l.points) list lists well a in
    record {
      codes_rise = codes_rise;
      rise = rise;
      few = λ region. few_kept lists points region well (own_codes lists codes pc codes_rise) pp;
      own = each_of (λ (x : Point). IsPointOf x.region x) points (λ x a.
          let at = of x a in
          subst (λ (t : Text). IsPointOf t x) (sym at.3) (each_at (IsPointOf at.0.code) x at.0.points (good at.0 at.1).each at.2));
      bounded = each_of IsWellPoint points (λ x a. let at = of x a in each_at IsWellPoint x at.0.points (good at.0 at.1).bounded at.2);
      known = each_of (λ (x : Point). Among x.region codes) points (λ x a.
          let at = of x a in
          among_moved (code_list lists) codes x.region pc (subst (λ (t : Text). Among t (code_list lists)) (sym at.3) (map_among (λ (l : RegionPoints). l.code) lists at.0 at.1)));
    }
