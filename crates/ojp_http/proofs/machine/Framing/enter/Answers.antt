use Rattle.ojp_http.proofs.MachineFacts.{begins_sized}
use Rattle.ojp_http.proofs.machine.Framing.enter.Goals as goal

pub returns : goal.returns
returns c = begins_sized _ _ _ c.in-Ok.ensures.1 c.in-Ok.ensures.0 c.start_phase-self.ensures c.clear.ensures.items c.new-self.ensures
