use Rattle.std.specs.Prelude.{IfErr}
use Rattle.ojp_feed_rows.specs.declared.operator.Exchange.{Exchange}
use Rattle.std.proofs.Common.{List, subst}
use Rattle.ojp_feed_lines.specs.Lines.{IsFor, IsNeighbourClash}
use Rattle.ojp_feed_lines.proofs.operator.add_line.Goals as goal

pub returns-in-Neighbour-clause-refused : goal.returns-in-Neighbour-clause-refused
returns-in-Neighbour-clause-refused c =
    rw c.in-Neighbour.is
    (subst (λ (l : List Exchange). IfErr c.add_neighbour.result (IsFor (IsNeighbourClash l c.args.operator.now.neighbours.items c.in-Neighbour.neighbour)))
    c.deref.ensures.value c.add_neighbour.ensures.refused)
