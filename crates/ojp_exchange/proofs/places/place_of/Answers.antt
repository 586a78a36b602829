use Rattle.std.proofs.Common.{◌≤◌, ◌<◌, ◌+◌, ◌-◌, ◌/◌, length, arith, refl, sym, ◌∙◌}
use Rattle.std.proofs.lemmas.Option.{slice_get_read}
use Rattle.ojp_exchange.proofs.PlaceFacts.{lower_half, not_there, upper_half}
use Rattle.ojp_exchange.proofs.places.place_of.Goals as goal

pub returns-then-is_of : goal.returns-then-is_of
returns-then-is_of c =
    let all = c.args.points.now in
    let middle = c.halves.low + (c.halves.high - c.halves.low) / 2 in
    let inside : middle < length all = omega (arith, c.halves.invariant.within, c.halves-test.true) in
    let read = slice_get_read all (length all) middle c.index-points-middle.result refl inside c.index-points-middle.is in
    let same = c.if-is_of.ensures in
    record { point = c.index-points-middle.result; at = read; stop_is = same.0; region_is = same.1 }

pub halves-preserved-then-is_below : goal.halves-preserved-then-is_below
halves-preserved-then-is_below c =
    let all = c.args.points.now in
    let middle = c.halves.low + (c.halves.high - c.halves.low) / 2 in
    let inside : middle < c.halves.high = omega (arith, c.halves-test.true) in
    let within : middle < length all = omega (arith, c.halves.invariant.within, inside) in
    let at = c.index-points-middle.result in
    let read = slice_get_read all (length all) middle at refl within c.index-points-middle.is in
    upper_half all c.args.stop.now c.args.region.now c.halves.low c.halves.high middle at c.requires c.halves.invariant inside read (sym c.is_below.ensures ∙ c.if-is_below.true)

pub halves-preserved : goal.halves-preserved
halves-preserved c =
    let all = c.args.points.now in
    let middle = c.halves.low + (c.halves.high - c.halves.low) / 2 in
    let inside : middle < c.halves.high = omega (arith, c.halves-test.true) in
    let within : middle < length all = omega (arith, c.halves.invariant.within, inside) in
    let from : c.halves.low ≤ middle = omega arith in
    let at = c.index-points-middle.result in
    let read = slice_get_read all (length all) middle at refl within c.index-points-middle.is in
    lower_half all c.args.stop.now c.args.region.now c.halves.low c.halves.high middle at c.requires c.halves.invariant from inside read (sym c.is_below.ensures ∙ c.if-is_below.false) c.if-is_of.ensures

pub returns : goal.returns
returns c = not_there c.args.points.now c.args.stop.now c.args.region.now c.halves.low c.halves.high c.halves.invariant (omega (arith, c.halves-test.false))
