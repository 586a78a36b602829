use Rattle.ojp_links_mem.proofs.NumberFacts.{NoneBelow}
use Rattle.ojp_links_mem.proofs.regions.number_of.Given as goal

abbrev pub invariant-servers : goal.invariant-servers
invariant-servers l = NoneBelow l.servers l.code l.number
