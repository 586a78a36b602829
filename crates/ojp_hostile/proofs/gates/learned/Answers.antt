use Rattle.ojp_links_mem.specs.Memory.{links_of}
use Rattle.ojp_hostile.proofs.ReadyFacts.{learned_ready}
use Rattle.ojp_hostile.proofs.gates.learned.Goals as goal

pub returns-in-Ok : goal.returns-in-Ok
returns-in-Ok c = learned_ready c.in-Ok.book (links_of c.args.links.now) (links_of c.learn_paced.new.links) c.learn_paced.result c.in-Ok.is c.learn_paced.ensures
