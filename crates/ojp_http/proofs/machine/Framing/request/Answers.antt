use Rattle.std.proofs.Common.{refl}
use Rattle.ojp_http.proofs.MachineFacts.{new_request}
use Rattle.ojp_http.proofs.machine.Framing.request.Goals as goal

pub returns-clause-new : goal.returns-clause-new
returns-clause-new c = new_request _ refl c.new.ensures.items c.new-2.ensures
