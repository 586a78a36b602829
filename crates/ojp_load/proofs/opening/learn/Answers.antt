use Rattle.ojp_links_mem.specs.Memory.{links_of}
use Rattle.ojp_load.proofs.LinkFacts.{learned, only_memory}
use Rattle.ojp_load.proofs.opening.learn.Goals as goal

pub memory_of-requires : goal.memory_of-requires
memory_of-requires c =
    only_memory (links_of c.args.links.now) (links_of c.learn_paced-learned.new.links) c.is_sound.ensures c.is_sound-2.ensures c.requires.0 c.requires.2 c.in-Err.ensures.keeps
    c.in-Err.ensures.none_live c.in-Err.ensures.none_rejected c.requires.1 c.in-Err.refused c.in-Err.ensures.learns

pub returns-in-Ok : goal.returns-in-Ok
returns-in-Ok c tables o =
    learned (links_of c.args.links.now) (links_of c.learn_paced-learned.new.links) c.is_sound.ensures c.is_sound-2.ensures tables o c.in-Ok.ensures.keeps c.in-Ok.ensures.none_live c.in-Ok.ensures.none_rejected c.in-Ok.book c.in-Ok.ensures.learns
