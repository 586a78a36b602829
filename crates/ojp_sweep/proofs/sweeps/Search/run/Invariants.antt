use Rattle.std.proofs.Common.{◌-◌, slice_index}
use Rattle.ojp_sweep.specs.Sweeps.{IsRunning}
use Rattle.ojp_sweep.proofs.sweeps.Search.run.Given as goal

abbrev pub invariant-looks : goal.invariant-looks
invariant-looks l = IsRunning l.fn.progress l.progress l.self.net.now l.self.days.now l.self.asked l.day l.limit

abbrev pub decreases-looks : goal.decreases-looks
decreases-looks l = slice_index l.progress.ends.items l.day - slice_index l.progress.cursors.items l.day
