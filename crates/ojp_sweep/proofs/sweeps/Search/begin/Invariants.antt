use Rattle.ojp_sweep.specs.Labels.{KeepsReady}
use Rattle.ojp_sweep.specs.Sweeps.{IsBegun}
use Rattle.ojp_sweep.proofs.sweeps.Search.begin.Given as goal

abbrev pub invariant-days : goal.invariant-days
invariant-days l = record { begun : IsBegun l.progress l.self.net.now l.self.days.now l.self.asked l.day; kept : KeepsReady l.self.asked l.fn.progress.labels l.progress.labels }
