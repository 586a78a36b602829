use Rattle.std.proofs.Common.{◌<◌, ℕ, length, arith, refl, subst, sym, inl, inr}
use Rattle.std.proofs.Math.Nat.{eq-or-lt_of_le}
use Rattle.ojp_values.proofs.EachFacts.{up_to}
use Rattle.ojp_values.specs.declared.trips.Point.{Point}
use Rattle.std.proofs.lemmas.Option.{slice_get_read, slice_get_within}
use Rattle.ojp_timetable.proofs.ReadFacts.{at_among, read_once}
use Rattle.ojp_exchange.specs.Disputes.{AllReturn}
use Rattle.ojp_exchange.specs.Points.{IsStretch}
use Rattle.ojp_exchange.proofs.StretchFacts.{stretch_next}
use Rattle.ojp_exchange.proofs.joins.first_dispute.Goals as goal
use Rattle.ojp_exchange.proofs.joins.first_dispute.Goals.{then-place-to, else-place-to}

pub places-preserved : goal.places-preserved
places-preserved c =
    let points = c.args.points.now in
    let place = c.places.place in
    let from = c.if-place-to.from in
    let to = c.if-place-to.to in
    let here = c.index-points-place.result in
    let read = slice_get_read points (length points) place here refl c.places-test.true c.index-points-place.is in
    let stretch : IsStretch points here.stop from to =
    elim c.if-place-to.branch [
      | then-place-to w ↦
          subst (λ (n : ℕ). IsStretch points here.stop n to) (sym w.from-is)
          (subst (λ (n : ℕ). IsStretch points here.stop w.count_before-from.result n) (sym w.to-is) w.count_through-to.ensures)
      | else-place-to w ↦
          let less : place < c.places.to = elim (eq-or-lt_of_le c.places.invariant.1) [ inl e ↦ absurd (w.if-place-to.false e) | inr l ↦ l ] in
          subst (λ (n : ℕ). IsStretch points here.stop n to) (sym w.from-is)
          (subst (λ (n : ℕ). IsStretch points here.stop c.places.from n) (sym w.to-is) (c.places.invariant.2 here read less))
    ] in
    let next = stretch_next points place from to here read stretch in (
      (λ k other a l. elim (eq-or-lt_of_le (up_to k place l)) [
        | inl e ↦ subst (λ (p : Point). AllReturn c.args.codes.now points p) (read_once points place k here other (sym e) read a) c.in_default.ensures
        | inr m ↦ c.places.invariant.0 k other a m
      ]),
      next.0,
      next.1,
    )

pub returns : goal.returns
returns c point a =
    let at = at_among c.args.points.now point a in
    let within = slice_get_within c.args.points.now at.0 point at.1 in
    c.places.invariant.0 at.0 point at.1 (omega (arith, within, c.places-test.false))
