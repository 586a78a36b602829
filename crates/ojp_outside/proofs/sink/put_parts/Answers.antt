use Rattle.ojp_outside.proofs.Putting.{PutsParts-prefix}
use Rattle.ojp_outside.proofs.sink.put_parts.Goals as goal

pub returns-in-Err-clause-err : goal.returns-in-Err-clause-err
returns-in-Err-clause-err g c = PutsParts-prefix _ _ _ _ _ _ _ _ c.loop-part.invariant c.loop-part-test.true c.in-Err.ensures.err
