use Rattle.ojp_hostile.proofs.ReadyFacts.{renumbered_ready}
use Rattle.ojp_hostile.proofs.waits.count_anew.Goals as goal

pub returns : goal.returns
returns c = renumbered_ready c.args.book.now c.args.links.now c.renumber.new.self 0 c.renumber.ensures c.requires
