use Rattle.std.proofs.Common.{◌≡◌, ◌<◌, length, arith, refl, sym, subst, inl, inr}
use Rattle.std.proofs.Math.Nat.{eq-or-lt_of_le}
use Rattle.std.proofs.lemmas.Option.{slice_get_read}
use Rattle.ojp_values.proofs.EachFacts.{up_to}
use Rattle.ojp_values.specs.declared.trips.Point.{Point}
use Rattle.ojp_timetable.proofs.ReadFacts.{read_once}
use Rattle.ojp_exchange.proofs.StretchFacts.{in_stretch, none_within}
use Rattle.ojp_exchange.proofs.places.place_within.Goals as goal

pub returns-then-is_in-clause-found : goal.returns-then-is_in-clause-found
returns-then-is_in-clause-found c stop stretch =
    let all = c.args.points.now in
    let place = c.points.place in
    let at = c.index-points-place.result in
    let within : place < length all = omega (arith, c.points-test.true, c.requires) in
    let read = slice_get_read all (length all) place at refl within c.index-points-place.is in
    in_stretch all stop c.args.region.now c.args.from c.args.to place at stretch read c.points.auto.place c.points-test.true c.if-is_in.ensures

pub points-preserved : goal.points-preserved
points-preserved c k x a from l =
    let all = c.args.points.now in
    let place = c.points.place in
    let at = c.index-points-place.result in
    let within : place < length all = omega (arith, c.points-test.true, c.requires) in
    let read = slice_get_read all (length all) place at refl within c.index-points-place.is in
    elim (eq-or-lt_of_le (up_to k place l)) [
      | inl e ↦ subst (λ (y : Point). y.region ≡ c.args.region.now → ⊥) (read_once all place k at x (sym e) read a) c.if-is_in.ensures
      | inr m ↦ c.points.invariant k x a from m
    ]

pub returns-clause-found : goal.returns-clause-found
returns-clause-found c stop stretch =
    none_within c.args.points.now stop c.args.region.now c.args.from c.args.to stretch
    (λ k x a from l. c.points.invariant k x a from (omega (arith, l, c.points-test.false)))
