use Rattle.ojp_links.specs.Seen.{NoneLive}
use Rattle.ojp_links.specs.Calls.{Keeps}
use Rattle.ojp_gateway.specs.Learning.{AreLists, RejectsNoneTold}
use Rattle.ojp_gateway.proofs.learning.learn.Given as goal

abbrev pub invariant-asking : goal.invariant-asking
invariant-asking g l = record {
  keeps : Keeps (g.L.Links.seen l.fn.links) (g.L.Links.seen l.links);
  none_live : NoneLive (g.L.Links.seen l.links);
  rejections : RejectsNoneTold (g.L.Links.seen l.fn.links) (g.L.Links.seen l.links);
  lists : AreLists (g.L.Links.seen l.fn.links) l.region l.lists.items;
}
