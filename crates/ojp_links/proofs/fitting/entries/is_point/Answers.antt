use Rattle.std.proofs.Common.{◌≡◌, rules, subst, sym, ◌∙◌}
use Rattle.ojp_links.specs.Entries.{AreNeighboursOf}
use Rattle.ojp_links.proofs.RisingFacts.{as_test}
use Rattle.ojp_timetable.specs.Points.{IsPointOf}
use Rattle.ojp_links.proofs.fitting.entries.is_point.Goals as goal

pub returns-then-eq : goal.returns-then-eq
returns-then-eq c =
    let of : c.args.point.now.region ≡ c.args.region.now = search rules in
    as_test c.are_neighbours.result (AreNeighboursOf c.args.region.now c.as_slice.result.now) (IsPointOf c.args.region.now c.args.point.now) c.are_neighbours.ensures (
      (λ h.
          let n = subst (AreNeighboursOf c.args.region.now) c.as_slice.ensures h in
          record { of_region = of; exchange = sym c.is_exchange.ensures ∙ c.if-not-is_exchange.false; rising = n.0; others = n.1 }),
      (λ p. subst (AreNeighboursOf c.args.region.now) (sym c.as_slice.ensures) (p.rising, p.others)),
    )
