use Rattle.std.proofs.Common.{◌≡◌, true, length, arith, refl, sym, ◌∙◌, subst, inl, inr}
use Rattle.std.proofs.Math.Nat.{eq-or-lt_of_le}
use Rattle.std.proofs.lemmas.Option.{slice_get_read}
use Rattle.ojp_values.proofs.EachFacts.{up_to}
use Rattle.ojp_values.specs.Texts.{same}
use Rattle.ojp_values.specs.declared.trips.Point.{Point}
use Rattle.ojp_timetable.proofs.ReadFacts.{read_once}
use Rattle.ojp_exchange.proofs.StretchFacts.{stretch_end, stretch_to}
use Rattle.ojp_exchange.proofs.places.count_through.Goals as goal

pub returns-then-not-is_at : goal.returns-then-not-is_at
returns-then-not-is_at c =
    let all = c.args.points.now in
    let i = c.points.i in
    let at = c.index-points-i.result in
    let read = slice_get_read all (length all) i at refl c.points-test.true c.index-points-i.is in
    stretch_to all c.args.stop.now c.args.from i at c.requires.rise c.requires.parted (omega arith) read (sym c.is_at.ensures ∙ c.if-not-is_at.true) c.points.invariant

pub points-preserved : goal.points-preserved
points-preserved c k x a from l =
    let all = c.args.points.now in
    let i = c.points.i in
    let at = c.index-points-i.result in
    let read = slice_get_read all (length all) i at refl c.points-test.true c.index-points-i.is in
    elim (eq-or-lt_of_le (up_to k i l)) [
      | inl e ↦ subst (λ (y : Point). same c.args.stop.now y.stop ≡ true) (read_once all i k at x (sym e) read a) (sym c.is_at.ensures ∙ c.if-not-is_at.false)
      | inr m ↦ c.points.invariant k x a from m
    ]

pub returns : goal.returns
returns c =
    let all = c.args.points.now in
    stretch_end all c.args.stop.now c.args.from (length all) c.requires.parted c.requires.parted.within refl
    (λ k x a from l. c.points.invariant k x a from (omega (arith, l, c.points-test.false)))
