use Rattle.ojp_links_mem.specs.Pending.{RestedBelow}
use Rattle.ojp_links_mem.proofs.pending.rest_all.Given as goal

abbrev pub invariant-keys : goal.invariant-keys
invariant-keys l = RestedBelow l.initial.asks l.asks l.key
