use Rattle.ojp_links_mem.specs.Memory.{links_of}
use Rattle.ojp_hostile.proofs.ReadyFacts.{still_ready}
use Rattle.ojp_hostile.proofs.gates.serve_resting.Goals as goal

pub returns : goal.returns
returns c = still_ready c.args.book.now (links_of c.args.links.now) (links_of c.serve_paced.new.links) c.serve_paced.ensures.keeps c.serve_paced.ensures.none_live c.requires.regions
