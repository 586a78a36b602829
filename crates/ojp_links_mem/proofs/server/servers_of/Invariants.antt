use Rattle.std.proofs.Common.{◌≡◌}
use Rattle.ojp_values.specs.Lists.{Each}
use Rattle.ojp_timetable.specs.Runs.{IsWell}
use Rattle.ojp_links_mem.proofs.server.servers_of.Given as goal

abbrev pub invariant-tables : goal.invariant-tables
invariant-tables l = (l.servers.items ≡ l.yielded) × Each IsWell l.servers.items
