use Rattle.ojp_links_mem.specs.Memory.{links_of}
use Rattle.ojp_rows.proofs.LinkFacts.{still_live}
use Rattle.ojp_rows.proofs.links.asking.rests_before.Goals as goal

pub rests-preserved : goal.rests-preserved
rests-preserved c = still_live (links_of c.more-answer.new.self) (links_of c.rest.new.self) c.args.sub.now.key c.rest.ensures.rests.idles.live c.more-answer.ensures.looks.live
