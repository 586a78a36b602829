use Rattle.ojp_links_net.specs.Pending.{SameLive}
use Rattle.ojp_links_net.specs.Progress.{SameProgress, progress_in}
use Rattle.ojp_links_net.proofs.table.register_all.Given as goal

abbrev pub invariant-keys : goal.invariant-keys
invariant-keys l = SameLive l.initial.asks l.asks × SameProgress (progress_in l.initial.asks) (progress_in l.asks)
