use Rattle.ojp_outside.proofs.Putting.{PutsParts}
use Rattle.ojp_outside.proofs.sink.put_parts.Given as goal

abbrev pub invariant-loop-part : goal.invariant-loop-part
invariant-loop-part g l = PutsParts (g.S.Sink.seen l.fn.sink).written (g.S.Sink.seen l.sink).written l.fn.parts l.part-index (g.S.Sink.seen l.fn.sink).faults (g.S.Sink.seen l.sink).faults
