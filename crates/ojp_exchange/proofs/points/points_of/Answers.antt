use Rattle.std.proofs.Common.{◌≡◌, List, subst, ap, ◌∙◌}
use Rattle.std.specs.Prelude.{IfOk}
use Rattle.ojp_values.specs.declared.trips.Point.{Point}
use Rattle.ojp_exchange.specs.Kept.{points_at}
use Rattle.ojp_exchange.proofs.RisingFacts.{listed_is}
use Rattle.ojp_exchange.proofs.points.points_of.Goals as goal

pub returns-clause-listed : goal.returns-clause-listed
returns-clause-listed c =
    subst (λ (points : List Point). IfOk c.copies_at.result (λ found. found ≡ points)) (ap (points_at c.args.place) c.points.ensures ∙ listed_is c.args.table.now c.args.place c.is_well.ensures.points.rising) c.copies_at.ensures
