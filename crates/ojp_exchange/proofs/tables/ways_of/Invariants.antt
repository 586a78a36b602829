use Rattle.ojp_exchange.specs.Tables.{AreParts, AreWaysIn}
use Rattle.ojp_exchange.proofs.tables.ways_of.Given as goal

abbrev pub invariant-regions : goal.invariant-regions
invariant-regions l = AreParts (AreWaysIn l.codes l.points l.edge_firsts) l.ways.items l.firsts.items l.code-index
