use Rattle.std.proofs.Common.{◌≡◌}
use Rattle.ojp_links.specs.Calls.{Keeps, NotRaised}
use Rattle.ojp_labels.specs.Boards.{ask_of, told_of}
use Rattle.ojp_turns.specs.Held.{StandsIn}
use Rattle.ojp_turns.proofs.CancelFacts.{SiftsTo}
use Rattle.ojp_turns.proofs.cancelling.cancel_all.Given as goal

abbrev pub invariant-cancelling : goal.invariant-cancelling
invariant-cancelling g l = record {
  stands : StandsIn l.book (ask_of l.board) (told_of l.board) l.subs.items (g.L.Links.seen l.links);
  keeps : Keeps (g.L.Links.seen l.fn.links) (g.L.Links.seen l.links);
  rejections : (g.L.Links.seen l.links).rejections ≡ (g.L.Links.seen l.fn.links).rejections;
  made : (g.L.Links.seen l.links).made ≡ (g.L.Links.seen l.fn.links).made;
  patience : NotRaised (g.L.Links.seen l.fn.links).patience (g.L.Links.seen l.links).patience;
  sifts : SiftsTo l.some l.counter l.book (ask_of l.board) (told_of l.board) (g.L.Links.seen l.fn.links) (g.L.Links.seen l.links) l.fn.subs.items l.subs.items;
}
