use Rattle.ojp_sweep.specs.Sweeps.{IsFirst}
use Rattle.ojp_sweep.proofs.sweeps.Search.next.Given as goal

abbrev pub invariant-days : goal.invariant-days
invariant-days l = IsFirst l.progress l.self.net.now l.self.days.now l.day l.next
