use Rattle.ojp_trace_laws.proofs.TraceFacts.{one_trace}
use Rattle.ojp_trace_laws.proofs.one_trace.Goals as goal

pub returns : goal.returns
returns c = one_trace
