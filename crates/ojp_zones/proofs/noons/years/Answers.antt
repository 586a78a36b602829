use Rattle.std.proofs.Common.{length, arith, sym, subst, ap, [], ◌∷◌, length-append}
use Rattle.ojp_zones.specs.Noons.{AreYears}
use Rattle.ojp_zones.proofs.NoonFacts.{AreYears-none, AreYears-push}
use Rattle.ojp_zones.proofs.noons.years.Goals as goal

pub loop-number-init : goal.loop-number-init
loop-number-init c =
    let e = c.in_ok-years.ensures.items in
    record { years = subst (AreYears c.args.zone.now) (sym e) (AreYears-none c.args.zone.now); count = omega (arith, ap length e) }

pub loop-number-preserved : goal.loop-number-preserved
loop-number-preserved c =
    let zone = c.args.zone.now in
    let years = c.loop-number.years.items in
    let year = c.year_in.result in
    let number = c.year_in.ensures.number in
    let all = AreYears-push zone years year c.loop-number.invariant.years c.year_in.ensures.is (omega (arith, number, c.loop-number.invariant.count)) in
    record {
      years = subst (AreYears zone) (sym c.in_ok-push.ensures.items) all;
      count = omega (arith, ap length c.in_ok-push.ensures.items, length-append years (year ∷ []), c.loop-number.invariant.count);
    }
