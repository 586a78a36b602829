use Rattle.std.proofs.Common.{◌≡◌, Some, length, refl, slice_get}
use Rattle.std.proofs.lemmas.Option.{slice_get_read}
use Rattle.ojp_links_mem.proofs.SoundFacts.{code_seen, region_below}
use Rattle.ojp_links_mem.proofs.memory.MemLinksLinks.code.Goals as goal

pub returns : goal.returns
returns c =
    let m = c.self.inside in
    let below = region_below m c.args.self.now c.args.region c.self.view_is c.requires in
    let at : slice_get m.regions.items c.args.region ≡ Some c.index.result.now = slice_get_read m.regions.items (length m.regions.items) c.args.region c.index.result.now refl below c.index.ensures in
    code_seen m c.args.self.now c.args.region c.index.result.now c.self.view_is at
