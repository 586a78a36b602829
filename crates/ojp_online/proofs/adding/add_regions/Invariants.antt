use Rattle.std.proofs.Common.{take}
use Rattle.ojp_links.specs.Seen.{NoneLive}
use Rattle.ojp_online.specs.Added.{HasRejectedNone, HasStations}
use Rattle.ojp_online.proofs.adding.add_regions.Given as goal

abbrev pub invariant-adding : goal.invariant-adding
invariant-adding g l = record {
  stations : HasStations (take l.i l.regions) (g.L.Links.seen l.links);
  none_live : NoneLive (g.L.Links.seen l.links);
  none_rejected : HasRejectedNone (g.L.Links.seen l.links);
}
