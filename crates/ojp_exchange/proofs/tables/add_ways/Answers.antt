use Rattle.std.proofs.Common.{sym, ◌∙◌, ap}
use Rattle.ojp_exchange.specs.Tables.{is_way}
use Rattle.ojp_exchange.proofs.TableFacts.{pushed_one}
use Rattle.ojp_exchange.proofs.WayFacts.{way_passed, way_taken}
use Rattle.ojp_exchange.proofs.tables.add_ways.Goals as goal
use Rattle.ojp_exchange.proofs.tables.add_ways.Goals.{then-is_way+else-is_err, else-is_way}

pub places-preserved : goal.places-preserved
places-preserved c =
    let test = is_way c.args.points.now c.args.edge_firsts.now c.args.code.now in
    let old = c.args.ways.now.items in
    let ways = c.places.ways.items in
    let place = c.places.place in
    elim c.if-is_way.branch [
      | then-is_way+else-is_err w ↦
          way_taken test old ways c.if-is_way.ways.items place c.places.invariant (sym c.is_way.ensures ∙ w.if-is_way.true)
          (ap (λ (v : _). v.items) w.ways-is ∙ pushed_one ways _ place _ _ w.push.ensures.items w.is_err.ensures.negation w.if-is_err.false)
      | else-is_way w ↦ way_passed test old ways c.if-is_way.ways.items place c.places.invariant (sym c.is_way.ensures ∙ w.if-is_way.false) (ap (λ (v : _). v.items) w.ways-is)
    ]
