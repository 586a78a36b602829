use Rattle.std.proofs.Common.{◌+◌, Bool, cond, drop, length, map, arith, ◌∙◌, ap}
use Rattle.ojp_exchange.specs.Kept.{spot_of, stops_of}
use Rattle.ojp_exchange.proofs.StopFacts.{stops_step}
use Rattle.ojp_exchange.proofs.joins.stops_in.Goals as goal
use Rattle.ojp_exchange.proofs.joins.stops_in.Goals.{then-is_last, else-is_last}

pub points-preserved : goal.points-preserved
points-preserved c =
    let step = stops_step c.args.points.now c.points.i c.is_last.result c.points-test.true c.is_last.ensures in
    let rest = length (stops_of (map spot_of (drop (c.points.i + 1) c.args.points.now))) in
    let before = c.points.invariant.counted in
    let few = c.points.invariant.few in
    elim c.if-is_last.branch [
      | then-is_last w ↦
          let one = step ∙ ap (λ (b : Bool). cond b 1 0 + rest) w.if-is_last.true in
          let count = w.count-is in
          record { counted = omega (arith, before, one, count); few = omega (arith, few, count) }
      | else-is_last w ↦
          let none = step ∙ ap (λ (b : Bool). cond b 1 0 + rest) w.if-is_last.false in
          let count = w.count-is in
          record { counted = omega (arith, before, none, count); few = omega (arith, few, count) }
    ]
