-- How halves are searched for a point.
use Rattle.std.proofs.Common.{◌≡◌, ℕ, ◌+◌, ◌<◌, ◌≤◌, true, false, List, [], Some, None, length, sym, ◌∙◌, subst, arith, slice_get, inl, inr}
use Rattle.std.specs.Prelude.{Option, MatchOption}
use Rattle.std.proofs.lemmas.Bool.{cases_Bool, cases_lt}
use Rattle.std.proofs.Math.Nat.{eq-or-lt_of_le}
use Rattle.std.proofs.lemmas.Option.{slice_get_within}
use Rattle.ojp_values.proofs.EachFacts.{up_to}
use Rattle.ojp_values.specs.Lists.{Among, IsRising}
use Rattle.ojp_values.specs.Texts.{Text, same}
use Rattle.ojp_values.specs.declared.trips.Neighbour.{Neighbour}
use Rattle.ojp_values.specs.declared.trips.Point.{Point}
use Rattle.ojp_timetable.proofs.Orders.{and_true, both}
use Rattle.ojp_timetable.proofs.ReadFacts.{among_at, at_among, read_once}
use Rattle.ojp_timetable.proofs.TextFacts.{is_same, same_is}
use Rattle.ojp_exchange.specs.Kept.{HasNoPoint, IsPointAt, Says, SaysNothing, entry_lt, entry_same}
use Rattle.ojp_exchange.specs.Points.{HasNeighbour, HasNoNeighbour}
use Rattle.ojp_exchange.proofs.RisingFacts.{entry_order, rising_at, rising_once}

-- what is looked for
abbrev pub key_of : Text → Text → Point
key_of stop region = record { region = region; stop = stop; change = 0; neighbours = [] }

-- the points before low are before what is looked for, and those from high on behind it
pub record AreHalved (points : List Point) (stop region : Text) (low high : ℕ) : Type 0 where
  pub order : low ≤ high
  pub within : high ≤ length points
  pub below : (k : ℕ) (x : Point) → slice_get points k ≡ Some x → k < low → entry_lt x (key_of stop region) ≡ true
  pub above : (k : ℕ) (x : Point) → slice_get points k ≡ Some x → high ≤ k → entry_lt (key_of stop region) x ≡ true

pub all_open : (points : List Point) (stop region : Text) (high : ℕ) → high ≡ length points → AreHalved points stop region 0 high
all_open points stop region high e = record {
  order = omega arith;
  within = omega (arith, e);
  below = λ k x a l. absurd (omega (arith, l));
  above = λ k x a l. absurd (omega (arith, l, e, slice_get_within points k x a));
}

pub upper_half : (points : List Point) (stop region : Text) (low high middle : ℕ) (at : Point) → IsRising entry_lt points → AreHalved points stop region low high → middle < high
    → slice_get points middle ≡ Some at → entry_lt at (key_of stop region) ≡ true → AreHalved points stop region (middle + 1) high
upper_half points stop region low high middle at rise halved inside read before = record {
  order = omega (arith, inside);
  within = halved.within;
  below = λ k x a l. elim (eq-or-lt_of_le (up_to k middle l)) [
    | inl e ↦ subst (λ (y : Point). entry_lt y (key_of stop region) ≡ true) (read_once points middle k at x (sym e) read a) before
    | inr m ↦ entry_order.carried x at (key_of stop region) (rising_at entry_lt points k middle x at rise a read m) before
  ];
  above = halved.above;
}

pub lower_half : (points : List Point) (stop region : Text) (low high middle : ℕ) (at : Point) → IsRising entry_lt points → AreHalved points stop region low high → low ≤ middle → middle < high
    → slice_get points middle ≡ Some at → entry_lt at (key_of stop region) ≡ false → ((at.stop ≡ stop) × (at.region ≡ region) → ⊥) → AreHalved points stop region low middle
lower_half points stop region low high middle at rise halved from inside read before other =
    let apart : entry_same at (key_of stop region) ≡ false =
    elim (cases_Bool (entry_same at (key_of stop region))) [
      | inl t ↦ let parts = both (same at.stop stop) (same at.region region) t in absurd (other (same_is at.stop stop parts.0, same_is at.region region parts.1))
      | inr t ↦ t
    ] in
    let behind = entry_order.other at (key_of stop region) before apart in
    record {
      order = from;
      within = omega (arith, inside, halved.within);
      below = halved.below;
      above = λ k x a l. elim (eq-or-lt_of_le l) [
        | inl e ↦ subst (λ (y : Point). entry_lt (key_of stop region) y ≡ true) (read_once points middle k at x e read a) behind
        | inr m ↦ entry_order.carried (key_of stop region) at x behind (rising_at entry_lt points middle k at x rise read a m)
      ];
    }

tied : (x : Point) (stop region : Text) → x.stop ≡ stop → x.region ≡ region → entry_same x (key_of stop region) ≡ true
tied x stop region s r = and_true (same x.stop stop) (same x.region region) (is_same x.stop stop s) (is_same x.region region r)

pub not_there : (points : List Point) (stop region : Text) (low high : ℕ) → AreHalved points stop region low high → high ≤ low → HasNoPoint points stop region
not_there points stop region low high halved done x a s r =
    let at = at_among points x a in
    let t = tied x stop region s r in
    elim (cases_lt at.0 low) [
      | inl l ↦ entry_order.apart x (key_of stop region) (halved.below at.0 x at.1 l) t
      | inr l ↦ entry_order.apart (key_of stop region) x (halved.above at.0 x at.1 (omega (arith, done, l))) (entry_order.back x (key_of stop region) t)
    ]

-- a point that is found is the only one of its region at its stop
pub only_point : (points : List Point) (x y : Point) → IsRising entry_lt points → Among x points → Among y points → x.stop ≡ y.stop → x.region ≡ y.region → x ≡ y
only_point points x y rise a b s r = rising_once entry_lt entry_same entry_order points x y rise a b (tied x y.stop y.region s r)

pub says_none : (points : List Point) (stop region other : Text) → HasNoPoint points stop region → SaysNothing points stop region other
says_none points stop region other none change says = none says.point says.listed says.at says.of

pub says_no_neighbour : (points : List Point) (stop region other : Text) (place : ℕ) (at : IsPointAt points stop region place) → IsRising entry_lt points → HasNoNeighbour at.point.neighbours other
    → SaysNothing points stop region other
says_no_neighbour points stop region other place at rise none change says =
    let one : says.point ≡ at.point =
    only_point points says.point at.point rise says.listed (among_at points place at.point at.at) (says.at ∙ sym at.stop_is) (says.of ∙ sym at.region_is) in
    none says.neighbour (subst (λ (p : Point). Among says.neighbour p.neighbours) one says.declared) says.code

pub says_neighbour : (points : List Point) (stop region other : Text) (place change : ℕ) (at : IsPointAt points stop region place) → HasNeighbour at.point.neighbours other change
    → Says points stop region other change
says_neighbour points stop region other place change at has = record {
  point = at.point;
  listed = among_at points place at.point at.at;
  at = at.stop_is;
  of = at.region_is;
  neighbour = has.0;
  declared = has.1;
  code = has.2;
  time = has.3;
}

pub said_at : (points : List Point) (stop region other : Text) (place : ℕ) (at : IsPointAt points stop region place) (found : Option ℕ) → IsRising entry_lt points
    → MatchOption found (HasNoNeighbour at.point.neighbours other) (HasNeighbour at.point.neighbours other) → MatchOption found (SaysNothing points stop region other) (Says points stop region other)
said_at points stop region other place at None rise h = says_no_neighbour points stop region other place at rise h
said_at points stop region other place at (Some change) rise h = says_neighbour points stop region other place change at h

-- neighbours that were looked at
pub none_of : (neighbours : List Neighbour) (code : Text) (n : ℕ) → length neighbours ≤ n → ((k : ℕ) (x : Neighbour) → slice_get neighbours k ≡ Some x → k < n → x.code ≡ code → ⊥) → HasNoNeighbour neighbours code
none_of neighbours code n all none x a e =
    let at = at_among neighbours x a in
    none at.0 x at.1 (omega (arith, all, slice_get_within neighbours at.0 x at.1)) e

pub none_further : (neighbours : List Neighbour) (code : Text) (n : ℕ) (at : Neighbour) → ((k : ℕ) (x : Neighbour) → slice_get neighbours k ≡ Some x → k < n → x.code ≡ code → ⊥)
    → slice_get neighbours n ≡ Some at → (at.code ≡ code → ⊥) → (k : ℕ) (x : Neighbour) → slice_get neighbours k ≡ Some x → k < n + 1 → x.code ≡ code → ⊥
none_further neighbours code n at none read other k x a l = elim (eq-or-lt_of_le (up_to k n l)) [
  | inl e ↦ λ same_code. other (subst (λ (y : Neighbour). y.code ≡ code) (read_once neighbours k n x at e a read) same_code)
  | inr m ↦ none k x a m
]
