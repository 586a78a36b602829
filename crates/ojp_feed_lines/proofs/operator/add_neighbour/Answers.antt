use Rattle.std.proofs.Common.{inl, inr, refl, sym, ◌∙◌}
use Rattle.ojp_feed_lines.proofs.OperatorFacts.{no_point, region_there}
use Rattle.ojp_feed_lines.proofs.operator.add_neighbour.Goals as goal

pub returns-then-not-has_point-clause-refused : goal.returns-then-not-has_point-clause-refused
returns-then-not-has_point-clause-refused c =
    inl (refl, no_point c.args.exchanges.now c.args.neighbour.point (sym c.has_point.ensures ∙ c.if-not-has_point.true))

pub returns-then-has_region-clause-refused : goal.returns-then-has_region-clause-refused
returns-then-has_region-clause-refused c =
    let (other, there, point, region) =
    region_there c.args.neighbours.now.items c.deref.result.now c.args.neighbour.point c.args.neighbour.region c.deref.ensures.value (sym c.has_region.ensures ∙ c.if-has_region.true) in
    inr (refl, other, there, point, region)
