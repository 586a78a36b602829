use Rattle.std.proofs.Common.{◌≡◌, take}
use Rattle.ojp_links_mem.specs.Regions.{regions_from}
use Rattle.ojp_links_mem.proofs.regions.regions_of.Given as goal

abbrev pub invariant-servers : goal.invariant-servers
invariant-servers l = l.regions.items ≡ regions_from 0 (take l.server-index l.servers)
