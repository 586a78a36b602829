use Rattle.ojp_exchange.specs.Joins.{AreWellLists}
use Rattle.ojp_rows.proofs.tables.lists_of.Given as goal

abbrev pub invariant-tables : goal.invariant-tables
invariant-tables l = AreWellLists l.lists.items
