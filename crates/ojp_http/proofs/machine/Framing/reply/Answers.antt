use Rattle.std.proofs.Common.{refl}
use Rattle.ojp_http.proofs.MachineFacts.{new_reply}
use Rattle.ojp_http.proofs.machine.Framing.reply.Goals as goal

pub returns : goal.returns
returns c = new_reply _ refl c.new.ensures.items c.new-2.ensures
