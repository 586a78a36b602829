use Rattle.std.proofs.Common.{◌≤◌, ◌<◌, ◌+◌, ◌-◌, ◌/◌, length, arith, refl, sym, ◌∙◌}
use Rattle.std.proofs.lemmas.Option.{slice_get_read}
use Rattle.ojp_exchange.proofs.StretchFacts.{part_lower, part_upper}
use Rattle.ojp_exchange.proofs.places.count_before.Goals as goal

pub halves-preserved-then-is_at_earlier : goal.halves-preserved-then-is_at_earlier
halves-preserved-then-is_at_earlier c =
    let all = c.args.points.now in
    let middle = c.halves.low + (c.halves.high - c.halves.low) / 2 in
    let inside : middle < c.halves.high = omega (arith, c.halves-test.true) in
    let within : middle < length all = omega (arith, c.halves.invariant.within, inside) in
    let at = c.index-points-middle.result in
    let read = slice_get_read all (length all) middle at refl within c.index-points-middle.is in
    part_upper all c.args.stop.now c.halves.low c.halves.high middle at c.requires c.halves.invariant inside read (sym c.is_at_earlier.ensures ∙ c.if-is_at_earlier.true)

pub halves-preserved : goal.halves-preserved
halves-preserved c =
    let all = c.args.points.now in
    let middle = c.halves.low + (c.halves.high - c.halves.low) / 2 in
    let inside : middle < c.halves.high = omega (arith, c.halves-test.true) in
    let within : middle < length all = omega (arith, c.halves.invariant.within, inside) in
    let from : c.halves.low ≤ middle = omega arith in
    let at = c.index-points-middle.result in
    let read = slice_get_read all (length all) middle at refl within c.index-points-middle.is in
    part_lower all c.args.stop.now c.halves.low c.halves.high middle at c.requires c.halves.invariant from inside read (sym c.is_at_earlier.ensures ∙ c.if-is_at_earlier.false)
