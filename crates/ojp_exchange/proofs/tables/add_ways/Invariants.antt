use Rattle.std.proofs.Common.{◌≡◌, ◌++◌}
use Rattle.std.specs.List.{filter, range_with_len}
use Rattle.ojp_exchange.specs.Tables.{is_way}
use Rattle.ojp_exchange.proofs.tables.add_ways.Given as goal

abbrev pub invariant-places : goal.invariant-places
invariant-places l = l.ways.items ≡ l.initial.ways.items ++ filter (is_way l.points l.edge_firsts l.code) (range_with_len 0 l.place)
