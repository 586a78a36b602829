use Rattle.ojp_turns.proofs.TraceFacts.{grew_same}
use Rattle.ojp_turns.proofs.tracing.trace_drops.Goals as goal

pub returns-in-Err-clause-grew : goal.returns-in-Err-clause-grew
returns-in-Err-clause-grew c = grew_same c.args.turn c.args.trace.now c.dropping.trace c.trace_drop.new.trace (_, c.dropping.invariant) c.in-Err.ensures.err
