use Rattle.std.proofs.Common.{◌≡◌, length}
use Rattle.ojp_links.specs.Calls.{Keeps}
use Rattle.ojp_turns.specs.Held.{AreHeld}
use Rattle.ojp_turns.proofs.cancelling.cancel_rest.Given as goal

abbrev pub invariant-rest : goal.invariant-rest
invariant-rest g l = record {
  held : AreHeld l.subs.items (g.L.Links.seen l.links);
  keeps : Keeps (g.L.Links.seen l.fn.links) (g.L.Links.seen l.links);
  rejections : (g.L.Links.seen l.links).rejections ≡ (g.L.Links.seen l.fn.links).rejections;
}

abbrev pub decreases-rest : goal.decreases-rest
decreases-rest g l = length l.subs.items
