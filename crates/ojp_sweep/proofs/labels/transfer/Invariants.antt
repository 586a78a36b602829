use Rattle.ojp_sweep.specs.Labels.{IsReadying}
use Rattle.ojp_sweep.proofs.labels.transfer.Given as goal

abbrev pub invariant-walks : goal.invariant-walks
invariant-walks l = IsReadying l.fn.ready.items l.ready.items l.net l.place l.arrives l.index
