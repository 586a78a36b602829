use Rattle.ojp_links_mem.specs.Memory.{links_of}
use Rattle.ojp_hostile.proofs.ReadyFacts.{still_ready}
use Rattle.ojp_hostile.proofs.gates.serve_by_waits.Goals as goal

pub returns : goal.returns
returns g c = still_ready c.args.book.now (links_of c.args.links.now) (links_of c.serve_waiting.new.links) c.serve_waiting.ensures.keeps c.serve_waiting.ensures.none_live c.requires.regions
