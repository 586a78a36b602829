use Rattle.ojp_exchange.proofs.ChangeFacts.{AreChangesTo}
use Rattle.ojp_exchange.proofs.tables.add_edges.Given as goal

abbrev pub invariant-others : goal.invariant-others
invariant-others l = AreChangesTo l.points l.place l.from l.other l.initial.edges.items l.edges.items
