use Rattle.ojp_exchange.specs.Joins.{AreWellLists}
use Rattle.ojp_bench.proofs.lists.lists.Given as goal

abbrev pub invariant-regions : goal.invariant-regions
invariant-regions l = AreWellLists l.lists.items
