use Rattle.std.proofs.Common.{length}
use Rattle.ojp_outside.proofs.Putting.{Puts}
use Rattle.ojp_outside.proofs.sink.put_all.Given as goal

abbrev pub invariant-writing : goal.invariant-writing
invariant-writing g l = Puts (g.S.Sink.seen l.fn.sink).written (g.S.Sink.seen l.sink).written l.fn.bytes l.rest (g.S.Sink.seen l.fn.sink).faults (g.S.Sink.seen l.sink).faults

abbrev pub decreases-writing : goal.decreases-writing
decreases-writing g l = length l.rest
