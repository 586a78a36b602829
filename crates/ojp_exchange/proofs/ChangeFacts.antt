-- Which changes there are from a point, and that they are the edges of the book.
use Rattle.std.proofs.Common.{◌≡◌, ℕ, ◌+◌, ◌<◌, ◌≤◌, ◌⊎◌, true, List, [], ◌∷◌, ◌++◌, Some, refl, sym, ◌∙◌, ap, subst, arith, slice_get, inl, inr, true≢false}
use Rattle.std.proofs.lemmas.Bool.{cases_lt}
use Rattle.std.proofs.lemmas.List.{append_assoc}
use Rattle.std.proofs.lemmas.Option.{same_Some}
use Rattle.ojp_values.specs.Lists.{Among, IsRising}
use Rattle.ojp_values.specs.Texts.{same}
use Rattle.ojp_values.specs.declared.trips.Neighbour.{Neighbour}
use Rattle.ojp_values.specs.declared.trips.Point.{Point}
use Rattle.ojp_timetable.specs.Points.{neighbour_lt}
use Rattle.ojp_timetable.proofs.Orders.{IsOrder, text_order}
use Rattle.ojp_timetable.proofs.TextFacts.{is_same}
use Rattle.ojp_exchange.specs.declared.spots.Edge.{Edge}
use Rattle.ojp_exchange.specs.Points.{HasNeighbour, HasNoNeighbour, IsStretch}
use Rattle.ojp_exchange.specs.Places.{edge_to}
use Rattle.ojp_exchange.specs.Tables.{AreChanges, IsChangeAt}
use Rattle.ojp_values.proofs.ListFacts.{among_append, among_append_left, among_append_right}
use Rattle.ojp_exchange.proofs.RisingFacts.{rising_once}

-- ---- a code is declared once

neighbour_order : IsOrder neighbour_lt (λ (x : Neighbour) (y : Neighbour). same x.code y.code)
neighbour_order = text_order (λ (x : Neighbour). x.code)

pub one_neighbour : (neighbours : List Neighbour) (x y : Neighbour) → IsRising neighbour_lt neighbours → Among x neighbours → Among y neighbours → x.code ≡ y.code → x ≡ y
one_neighbour neighbours x y rise a b e = rising_once neighbour_lt (λ (v : Neighbour) (w : Neighbour). same v.code w.code) neighbour_order neighbours x y rise a b (is_same x.code y.code e)

-- ---- the changes that were found so far

-- the edges are the changes from the point to those from the one number to before the other
pub record AreChangesTo (points : List Point) (place from to : ℕ) (old new : List Edge) : Type 0 where
  pub more : List Edge
  pub grown : new ≡ old ++ more
  pub only : (at change : ℕ) → Among (edge_to at change) more → (from ≤ at) × (at < to) × IsChangeAt points place at change
  pub all : (at change : ℕ) → from ≤ at → at < to → IsChangeAt points place at change → Among (edge_to at change) more

pub none_yet : (points : List Point) (place from : ℕ) (edges : List Edge) → AreChangesTo points place from from edges edges
none_yet points place from edges = record {
  more = [];
  grown = sym (append_none edges);
  only = λ at change a. absurd a;
  all = λ at change low high is. absurd (omega (arith, low, high));
}
  where
    append_none : {X : Type 0} (xs : List X) → xs ++ [] ≡ xs
    append_none [] = refl
    append_none (x ∷ xs) = ap (λ (ys : _). x ∷ ys) (append_none xs)

pub none_there : (points : List Point) (place from other : ℕ) (here there : Point) (old new : List Edge) → AreChangesTo points place from other old new → slice_get points place ≡ Some here
    → slice_get points other ≡ Some there → HasNoNeighbour there.neighbours here.region → AreChangesTo points place from (other + 1) old new
none_there points place from other here there old new are here_at there_at none = record {
  more = are.more;
  grown = are.grown;
  only = λ at change a. let it = are.only at change a in (it.0, omega (arith, it.1), it.2);
  all = λ at change low high is. elim (split at other high) [
    | inl l ↦ are.all at change low l is
    | inr e ↦
        let one : is.there ≡ there = same_Some is.there there (sym is.there_at ∙ (ap (slice_get points) e ∙ there_at)) in
        let two : is.here ≡ here = same_Some is.here here (sym is.here_at ∙ here_at) in
        absurd (none is.neighbour (subst (λ (p : Point). Among is.neighbour p.neighbours) one is.declared) (is.code ∙ ap (λ (p : Point). p.region) two))
  ];
}
  where
    split : (a b : ℕ) → a < b + 1 → (a < b) ⊎ (a ≡ b)
    split a b h = elim (cases_lt a b) [ inl l ↦ inl l | inr g ↦ inr (omega (arith, g, h)) ]

pub one_there : (points : List Point) (place from other change : ℕ) (here there : Point) (old new new' : List Edge) → AreChangesTo points place from other old new → slice_get points place ≡ Some here
    → slice_get points other ≡ Some there → from ≤ other → there.stop ≡ here.stop → IsRising neighbour_lt there.neighbours → HasNeighbour there.neighbours here.region change
    → new' ≡ new ++ edge_to other change ∷ [] → AreChangesTo points place from (other + 1) old new'
one_there points place from other change here there old new new' are here_at there_at low stop rise has pushed = record {
  more = are.more ++ edge_to other change ∷ [];
  grown = pushed ∙ (ap (λ (es : List Edge). es ++ edge_to other change ∷ []) are.grown ∙ append_assoc old are.more (edge_to other change ∷ []));
  only = λ at time a. elim (among_append (edge_to at time) are.more (edge_to other change ∷ []) a) [
    | inl l ↦ let it = are.only at time l in (it.0, omega (arith, it.1), it.2)
    | inr r ↦ elim r [
      | inl e ↦
          let at_is : at ≡ other = ap (λ (x : Edge). x.to) e in
          let time_is : time ≡ change = ap (λ (x : Edge). x.change) e in (
            omega (arith, low, at_is),
            omega (arith, at_is),
            (record {
              here = here;
              here_at = here_at;
              there = there;
              there_at = ap (slice_get points) at_is ∙ there_at;
              one_stop = stop;
              neighbour = has.0;
              declared = has.1;
              code = has.2;
              time = has.3 ∙ sym time_is;
            }),
          )
      | inr n ↦ absurd n
    ]
  ];
  all = λ at time from_low high is. elim (split at other high) [
    | inl l ↦ among_append_left (edge_to at time) are.more _ (are.all at time from_low l is)
    | inr e ↦
        let one : is.there ≡ there = same_Some is.there there (sym is.there_at ∙ (ap (slice_get points) e ∙ there_at)) in
        let two : is.here ≡ here = same_Some is.here here (sym is.here_at ∙ here_at) in
        let same_one : is.neighbour ≡ has.0 =
        one_neighbour there.neighbours is.neighbour has.0 rise (subst (λ (p : Point). Among is.neighbour p.neighbours) one is.declared) has.1 (is.code ∙ (ap (λ (p : Point). p.region) two ∙ sym has.2)) in
        let time_is : time ≡ change = sym is.time ∙ (ap (λ (n : Neighbour). n.change) same_one ∙ has.3) in
        among_append_right (edge_to at time) are.more _ (inl (λ i. record { to = e i; change = time_is i }))
  ];
}
  where
    split : (a b : ℕ) → a < b + 1 → (a < b) ⊎ (a ≡ b)
    split a b h = elim (cases_lt a b) [ inl l ↦ inl l | inr g ↦ inr (omega (arith, g, h)) ]

-- those at the stop are all
pub all_there : (points : List Point) (place from to : ℕ) (here : Point) (old new : List Edge) (are : AreChangesTo points place from to old new) → slice_get points place ≡ Some here
    → IsStretch points here.stop from to → AreChanges points place are.more
all_there points place from to here old new are here_at stretch at change = (
  (λ a. (are.only at change a).2),
  (λ is.
      let two : is.here ≡ here = same_Some is.here here (sym is.here_at ∙ here_at) in
      let stop_is : same here.stop is.there.stop ≡ true = is_same here.stop is.there.stop (sym (is.one_stop ∙ ap (λ (p : Point). p.stop) two)) in
      are.all at change (low is stop_is) (high is stop_is) is),
)
  where
    low : (is : IsChangeAt points place at change) → same here.stop is.there.stop ≡ true → from ≤ at
    low is e = elim (cases_lt at from) [ inl l ↦ absurd (true≢false (sym e ∙ stretch.before at is.there is.there_at l)) | inr g ↦ g ]

    high : (is : IsChangeAt points place at change) → same here.stop is.there.stop ≡ true → at < to
    high is e = elim (cases_lt at to) [ inl l ↦ l | inr g ↦ absurd (true≢false (sym e ∙ stretch.behind at is.there is.there_at g)) ]
