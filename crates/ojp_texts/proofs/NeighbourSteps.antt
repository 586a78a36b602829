-- The points with one more neighbour, by what stands among them.
use Rattle.std.proofs.Common.{◌≡◌, ◌⊎◌, inl, inr, Bool, true, false, cond, true≢false, List, [], ◌∷◌, refl, sym, ◌∙◌, ap, subst}
use Rattle.std.specs.Prelude.{Some, find}
use Rattle.ojp_values.specs.Lists.{Among, IsRising}
use Rattle.ojp_values.specs.Texts.{Text, same, text_lt}
use Rattle.ojp_values.specs.declared.trips.Neighbour.{Neighbour}
use Rattle.ojp_values.specs.declared.trips.Point.{Point}
use Rattle.ojp_values.proofs.ListFacts.{each_at}
use Rattle.ojp_timetable.specs.Contents.{point_with, points_with}
use Rattle.ojp_timetable.specs.Points.{point_lt}
use Rattle.ojp_timetable.proofs.AmongFacts.{among_inserted}
use Rattle.ojp_timetable.proofs.Orders.{not_before_itself}
use Rattle.ojp_timetable.proofs.TextFacts.{is_same, same_is}

-- one point of the list is the given one, or one of that stop with the neighbour
abbrev pub GivesPoint : List Point → Text → Neighbour → Point → Type 0
GivesPoint points stop neighbour given = (point : Point) × Among point points × (point.stop ≡ stop) × (given ≡ point_with point neighbour)

-- a point of the list with one more neighbour is one of the list, or has got it
pub among_with : (given : Point) (points : List Point) (stop : Text) (neighbour : Neighbour) → Among given (points_with points stop neighbour) → Among given points ⊎ GivesPoint points stop neighbour given
among_with given [] stop neighbour h = absurd h
among_with given (point ∷ points) stop neighbour h = by_test (λ later. among_with given points stop neighbour later) (same stop point.stop) refl h
  where
    by_test : (Among given (points_with points stop neighbour) → Among given points ⊎ GivesPoint points stop neighbour given) → (b : Bool) → same stop point.stop ≡ b → Among given (cond b (point_with point neighbour ∷ points) (point ∷ points_with points stop neighbour))
        → Among given (point ∷ points) ⊎ GivesPoint (point ∷ points) stop neighbour given
    by_test more true e (inl is) = inr (point, inl refl, sym (same_is stop point.stop e), is)
    by_test more true e (inr later) = inl (inr later)
    by_test more false e (inl is) = inl (inl is)
    by_test more false e (inr later) = elim (more later) [
      | inl old ↦ inl (inr old)
      | inr new ↦ inr (new.0, inr new.1, new.2, new.3)
    ]

-- a point of the list stays, or has got the neighbour
pub stays_with : (given : Point) (points : List Point) (stop : Text) (neighbour : Neighbour) → Among given points
    → Among given (points_with points stop neighbour) ⊎ Among (point_with given neighbour) (points_with points stop neighbour)
stays_with given [] stop neighbour h = absurd h
stays_with given (point ∷ points) stop neighbour h = by_test (λ later. stays_with given points stop neighbour later) (same stop point.stop) h
  where
    by_test : (Among given points → Among given (points_with points stop neighbour) ⊎ Among (point_with given neighbour) (points_with points stop neighbour)) → (b : Bool) → Among given (point ∷ points)
        → Among given (cond b (point_with point neighbour ∷ points) (point ∷ points_with points stop neighbour))
        ⊎ Among (point_with given neighbour) (cond b (point_with point neighbour ∷ points) (point ∷ points_with points stop neighbour))
    by_test more true (inl is) = inr (inl (ap (λ (p : Point). point_with p neighbour) is))
    by_test more true (inr later) = inl (inr later)
    by_test more false (inl is) = inl (inl is)
    by_test more false (inr later) = elim (more later) [ inl old ↦ inl (inr old) | inr new ↦ inr (inr new) ]

-- where there is a point of that stop, one has got the neighbour
pub gets_with : (points : List Point) (stop : Text) (neighbour : Neighbour) → (point : Point) × Among point points × (point.stop ≡ stop)
    → (got : Point) × Among got (points_with points stop neighbour) × (got.stop ≡ stop) × Among neighbour got.neighbours
gets_with [] stop neighbour h = absurd h.1
gets_with (point ∷ points) stop neighbour h = by_test (λ g. gets_with points stop neighbour g) (same stop point.stop) refl h
  where
    differs : same stop point.stop ≡ false → point.stop ≡ stop → ⊥
    differs e is = true≢false (sym (is_same stop point.stop (sym is)) ∙ e)

    by_test : ((given : Point) × Among given points × (given.stop ≡ stop) → (got : Point) × Among got (points_with points stop neighbour) × (got.stop ≡ stop) × Among neighbour got.neighbours)
        → (b : Bool) → same stop point.stop ≡ b → (given : Point) × Among given (point ∷ points) × (given.stop ≡ stop)
        → (got : Point) × Among got (cond b (point_with point neighbour ∷ points) (point ∷ points_with points stop neighbour)) × (got.stop ≡ stop) × Among neighbour got.neighbours
    by_test more true e g = (point_with point neighbour, inl refl, sym (same_is stop point.stop e), among_inserted point.neighbours _ neighbour)
    by_test more false e (given, inl is, at) = absurd (differs e (ap (λ (p : Point). p.stop) (sym is) ∙ at))
    by_test more false e (given, inr later, at) =
        let got = more (given, later, at) in
        (got.0, inr got.1, got.2, got.3)

-- ---- the point of a reference

-- what is found stands in the list, at that stop
pub found_among : (points : List Point) (stop : Text) (point : Point) → find (λ (p : Point). same stop p.stop) points ≡ Some point → Among point points × (point.stop ≡ stop)
found_among [] stop point h = absurd (cc h)
found_among (x ∷ points) stop point h = by_test (λ later. found_among points stop point later) (same stop x.stop) refl h
  where
    by_test : (find (λ (p : Point). same stop p.stop) points ≡ Some point → Among point points × (point.stop ≡ stop)) → (b : Bool) → same stop x.stop ≡ b → cond b (Some x) (find (λ (p : Point). same stop p.stop) points) ≡ Some point → Among point (x ∷ points) × (point.stop ≡ stop)
    by_test more true e is = let one : x ≡ point = cc in (inl (sym one), ap (λ (p : Point). p.stop) (sym one) ∙ sym (same_is stop x.stop e))
    by_test more false e is = let r = more is in (inr r.0, r.1)

-- of points that rise the one of that stop is found
pub finds : (points : List Point) (stop : Text) (point : Point) → IsRising point_lt points → Among point points → point.stop ≡ stop → find (λ (p : Point). same stop p.stop) points ≡ Some point
finds [] stop point rises h at = absurd h
finds (x ∷ points) stop point rises h at = by_test (λ later. finds points stop point rises.1 later at) (same stop x.stop) refl h
  where
    by_test : (Among point points → find (λ (p : Point). same stop p.stop) points ≡ Some point) → (b : Bool) → same stop x.stop ≡ b → Among point (x ∷ points) → cond b (Some x) (find (λ (p : Point). same stop p.stop) points) ≡ Some point
    by_test more true e (inl is) = ap Some (sym is)
    by_test more true e (inr later) =
        let before = each_at (λ (y : Point). point_lt x y ≡ true) point points rises.0 later in
        absurd (true≢false (sym (subst (λ (t : Text). text_lt x.stop t ≡ true) (at ∙ same_is stop x.stop e) before) ∙ not_before_itself x.stop))
    by_test more false e (inl is) = absurd (true≢false (sym (is_same stop x.stop (sym at ∙ ap (λ (p : Point). p.stop) is)) ∙ e))
    by_test more false e (inr later) = more later
