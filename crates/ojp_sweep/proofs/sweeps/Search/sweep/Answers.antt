use Rattle.std.proofs.Common.{arith}
use Rattle.ojp_sweep.proofs.NextFacts.{first-next, first-limit, all-done}
use Rattle.ojp_sweep.proofs.SweepFacts.{swept-closed}
use Rattle.ojp_sweep.proofs.sweeps.Search.sweep.Goals as goal

pub returns-then-next-gt-LAST-clause-closed : goal.returns-then-next-gt-LAST-clause-closed
returns-then-next-gt-LAST-clause-closed c =
    let s = c.args.self.now in
    swept-closed s.net.now s.days.now s.asked c.runs.progress c.requires.search c.runs.invariant.swept
    (all-done c.runs.progress s.net.now s.days.now s.asked c.requires.search c.runs.invariant.swept c.next-next.result c.next-next.ensures (omega arith))

pub run-requires-clause-next : goal.run-requires-clause-next
run-requires-clause-next c =
    let s = c.args.self.now in
    first-next c.runs.progress s.net.now s.days.now s.asked c.requires.search c.runs.invariant.swept c.next-next.result c.next-next.ensures (omega arith)

pub run-requires-clause-limit : goal.run-requires-clause-limit
run-requires-clause-limit c =
    let s = c.args.self.now in
    first-limit c.runs.progress s.net.now s.days.now s.asked c.requires.search c.runs.invariant.swept c.next-next.result c.next-next.ensures
