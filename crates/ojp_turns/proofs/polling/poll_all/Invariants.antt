use Rattle.std.proofs.Common.{◌≡◌}
use Rattle.ojp_labels.specs.Boards.{IsBoardOf, ask_of, told_of}
use Rattle.ojp_turns.specs.Held.{StandsIn}
use Rattle.ojp_turns.specs.Polling.{PollsTo}
use Rattle.ojp_turns.specs.Tracing.{TracesEnds}
use Rattle.ojp_turns.proofs.OrderPollFacts.{OrderTo}
use Rattle.ojp_turns.proofs.polling.poll_all.Given as goal

abbrev pub invariant-polling : goal.invariant-polling
invariant-polling g l = record {
  of : IsBoardOf l.board l.book;
  same_ask : ask_of l.board ≡ ask_of l.fn.board;
  stands : StandsIn l.book (ask_of l.fn.board) (told_of l.board) l.subs.items (g.L.Links.seen l.links);
  polls : PollsTo l.moved l.counter l.book (ask_of l.fn.board) (g.L.Links.seen l.fn.links) (g.L.Links.seen l.links) l.fn.subs.items l.subs.items (told_of l.fn.board) (told_of l.board);
  traced : TracesEnds l.turn l.fn.subs.items (told_of l.fn.board) (told_of l.board) l.fn.trace l.trace;
  made : (g.L.Links.seen l.links).made ≡ (g.L.Links.seen l.fn.links).made;
  ordered : OrderTo l.turn l.counter l.book (ask_of l.fn.board) (g.L.Links.seen l.fn.links) (g.L.Links.seen l.links) l.fn.subs.items l.subs.items (told_of l.fn.board) (told_of l.board);
}
