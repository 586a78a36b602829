use Rattle.std.proofs.Common.{drop}
use Rattle.ojp_links.proofs.RisingFacts.{RisesFrom}
use Rattle.ojp_links.proofs.fitting.rising.rises.Given as goal

abbrev pub invariant-items : goal.invariant-items
invariant-items g l = RisesFrom g.T.Before.before l.initial.last l.rest l.last (drop l.item-index l.rest)
