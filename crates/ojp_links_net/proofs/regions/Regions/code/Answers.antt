use Rattle.std.proofs.Common.{◌≡◌, Some, length, refl, slice_get}
use Rattle.std.proofs.lemmas.Option.{slice_get_read}
use Rattle.ojp_links_net.proofs.RegionFacts.{code_seen, place_below}
use Rattle.ojp_links_net.proofs.regions.Regions.code.Goals as goal

pub returns : goal.returns
returns c =
    let r = c.self.inside in
    let below = place_below r c.args.self.now c.args.at c.self.view_is c.requires in
    let at : slice_get r.places.items c.args.at ≡ Some c.index.result.now = slice_get_read r.places.items (length r.places.items) c.args.at c.index.result.now refl below c.index.ensures in
    code_seen r c.args.self.now c.args.at c.index.result.now c.self.view_is at
