use Rattle.std.proofs.Common.{◌≡◌, map, take}
use Rattle.ojp_links.specs.Seen.{region_of_table}
use Rattle.ojp_links_mem.proofs.twice.codes_of.Given as goal

abbrev pub invariant-tables : goal.invariant-tables
invariant-tables l = l.codes.items ≡ map region_of_table (take l.table-index l.tables)
