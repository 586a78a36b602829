use Rattle.ojp_sweep.specs.Labels.{KeepsReady}
use Rattle.ojp_sweep.specs.Sweeps.{IsSwept, all_left}
use Rattle.ojp_sweep.proofs.sweeps.Search.sweep.Given as goal

abbrev pub invariant-runs : goal.invariant-runs
invariant-runs l = record { swept : IsSwept l.progress l.self.net.now l.self.days.now l.self.asked; kept : KeepsReady l.self.asked l.fn.progress.labels l.progress.labels }

abbrev pub decreases-runs : goal.decreases-runs
decreases-runs l = all_left l.progress
