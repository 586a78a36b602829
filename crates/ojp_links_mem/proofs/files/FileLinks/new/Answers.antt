use Rattle.std.proofs.Common.{refl}
use Rattle.ojp_links_mem.proofs.files.FileLinks.new.Goals as goal

pub returns-clause-none : goal.returns-clause-none
returns-clause-none g c = record { none_read = c.new-tables.ensures.items; shut = refl; no_region = c.bare-links.ensures.no_region; fresh = c.bare-links.ensures.fresh }
