use Rattle.std.proofs.Common.{refl}
use Rattle.std.proofs.lemmas.Option.{slice_get_read}
use Rattle.ojp_online.proofs.AddFacts.{new_code}
use Rattle.ojp_online.proofs.adding.add_regions.Goals as goal

pub add-requires : goal.add-requires
add-requires g c =
    new_code (g.L.Links.seen c.adding.links) c.args.regions.now c.adding.i c.index-regions-i.result c.adding.invariant.stations c.requires.apart
    (slice_get_read c.args.regions.now _ c.adding.i c.index-regions-i.result refl c.adding-test.true c.index-regions-i.is)
