use Rattle.std.proofs.Common.{◌≡◌, ◌≤◌}
use Rattle.ojp_labels.specs.Boards.{IsBoardOf, ask_of, told_of}
use Rattle.ojp_turns.specs.Asking.{IsAsking, AsksMore, AsksSome}
use Rattle.ojp_turns.proofs.AskFacts.{LiveTo}
use Rattle.ojp_turns.proofs.TraceAskFacts.{AsksTo}
use Rattle.ojp_turns.specs.Ordering.{AsksOrder}
use Rattle.ojp_turns.proofs.asking.ask_all.Given as goal

abbrev pub invariant-asking : goal.invariant-asking
invariant-asking g l = record {
  of : IsBoardOf l.board l.book;
  same_ask : ask_of l.board ≡ ask_of l.fn.board;
  asking : IsAsking l.book (ask_of l.fn.board) (told_of l.board) l.subs.items l.asked.last.items l.asked.count (g.L.Links.seen l.links);
  counts : l.fn.asked.count ≤ l.asked.count;
  more : AsksMore l.book (ask_of l.fn.board) (g.L.Links.seen l.fn.links) (g.L.Links.seen l.links) l.fn.subs.items l.subs.items (told_of l.fn.board) (told_of l.board);
  some : AsksSome l.some l.fn.asked.count l.asked.count (g.L.Links.seen l.fn.links) (g.L.Links.seen l.links) l.fn.subs.items l.subs.items (told_of l.fn.board) (told_of l.board);
  live : LiveTo l.number l.book (ask_of l.fn.board) (told_of l.board) l.subs.items;
  traced : AsksTo l.number l.turn l.book (ask_of l.fn.board) (told_of l.fn.board) (told_of l.board) l.fn.subs.items l.subs.items l.fn.asked.count l.asked.count l.fn.trace l.trace;
  ordered : AsksOrder (g.L.Links.seen l.fn.links) (g.L.Links.seen l.links) l.fn.subs.items l.subs.items l.fn.asked.count l.asked.count (told_of l.fn.board) (told_of l.board);
}
