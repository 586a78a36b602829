use Rattle.ojp_links_mem.specs.Memory.{links_of}
use Rattle.ojp_rows.proofs.LinkFacts.{none_has}
use Rattle.ojp_rows.proofs.links.asking.add_region.Goals as goal

pub add-requires : goal.add-requires
add-requires c = none_has (links_of c.args.links.now) c.in_ok-code.code c.requires
