use Rattle.std.proofs.Common.{◌≡◌, ◌+◌, length, map, Some, None, slice_index_or, refl, subst, ◌∙◌, arith}
use Rattle.ojp_values.specs.Lists.{Among}
use Rattle.ojp_records.specs.declared.queries.Query.{Query}
use Rattle.ojp_labels.specs.Slots.{slots}
use Rattle.ojp_turns.specs.Held.{query_of}
use Rattle.ojp_values.specs.declared.asks.TripAsk.{TripAsk}
use Rattle.ojp_labels.specs.Boards.{ask_of, told_of}
use Rattle.ojp_turns.specs.Asking.{IsAsking, AsksMore}
use Rattle.ojp_turns.proofs.AskFacts.{regions_kept, asks_none, some_none, asks_on, some_on, live_to_more, none_missing}
use Rattle.ojp_labels.proofs.SlotFacts.{slots_length}
use Rattle.ojp_turns.specs.Tracing.{TracesThis}
use Rattle.ojp_turns.proofs.TraceFacts.{grew_on}
use Rattle.ojp_turns.proofs.TraceAskFacts.{asks_to_start, asks_step, asks_end}
use Rattle.ojp_turns.proofs.OrderAskFacts.{begins_start, begins_step}
use Rattle.ojp_turns.proofs.asking.ask_all.Goals as goal

pub asking-init : goal.asking-init
asking-init g c = record {
  of = c.requires.of;
  same_ask = refl;
  asking = c.requires.asking;
  counts = omega arith;
  more = asks_none c.args.book.now (ask_of c.args.board.now) (g.L.Links.seen c.args.links.now) c.args.subs.now.items (told_of c.args.board.now);
  some = some_none c.args.asked.now.count (g.L.Links.seen c.args.links.now) c.args.subs.now.items (told_of c.args.board.now);
  live = λ number query below e. absurd (omega (arith, below));
  traced = asks_to_start c.args.turn c.args.book.now (ask_of c.args.board.now) (told_of c.args.board.now) c.args.subs.now.items c.args.asked.now.count c.args.trace.now;
  ordered = begins_start (g.L.Links.seen c.args.links.now) c.args.subs.now.items c.args.asked.now.count (told_of c.args.board.now);
}

pub ask_next-requires-clause-regions : goal.ask_next-requires-clause-regions
ask_next-requires-clause-regions g c = regions_kept c.args.book.now (g.L.Links.seen c.args.links.now) (g.L.Links.seen c.asking.links) c.asking.invariant.more.keeps c.requires.regions

pub returns-in-Err-clause-more : goal.returns-in-Err-clause-more
returns-in-Err-clause-more g c =
    asks_on c.args.book.now (ask_of c.args.board.now) (g.L.Links.seen c.args.links.now) (g.L.Links.seen c.asking.links) (g.L.Links.seen c.ask_next.new.links) c.args.subs.now.items c.asking.subs.items c.ask_next.new.subs.items
    (told_of c.args.board.now) (told_of c.asking.board) (told_of c.ask_next.new.board) c.asking.invariant.more
    (subst (λ (ask : TripAsk). AsksMore c.args.book.now ask (g.L.Links.seen c.asking.links) (g.L.Links.seen c.ask_next.new.links) c.asking.subs.items c.ask_next.new.subs.items (told_of c.asking.board) (told_of c.ask_next.new.board)) c.asking.invariant.same_ask c.in-Err.ensures.more)

pub asking-preserved : goal.asking-preserved
asking-preserved g c =
    let more = subst (λ (ask : TripAsk). AsksMore c.args.book.now ask (g.L.Links.seen c.asking.links) (g.L.Links.seen c.ask_next.new.links) c.asking.subs.items c.ask_next.new.subs.items (told_of c.asking.board) (told_of c.ask_next.new.board)) c.asking.invariant.same_ask c.in-Ok.ensures.more in
    record {
      of = c.in-Ok.ensures.of;
      same_ask = c.in-Ok.ensures.ask ∙ c.asking.invariant.same_ask;
      asking = subst (λ (ask : TripAsk). IsAsking c.args.book.now ask (told_of c.ask_next.new.board) c.ask_next.new.subs.items c.ask_next.new.asked.last.items c.ask_next.new.asked.count (g.L.Links.seen c.ask_next.new.links)) c.asking.invariant.same_ask c.in-Ok.ensures.asking;
      counts = omega (arith, c.asking.invariant.counts, c.in-Ok.ensures.counts);
      more = asks_on c.args.book.now (ask_of c.args.board.now) (g.L.Links.seen c.args.links.now) (g.L.Links.seen c.asking.links) (g.L.Links.seen c.ask_next.new.links) c.args.subs.now.items c.asking.subs.items c.ask_next.new.subs.items
          (told_of c.args.board.now) (told_of c.asking.board) (told_of c.ask_next.new.board) c.asking.invariant.more more;
      some = some_on c.asking.some c.in-Ok.one c.args.asked.now.count c.asking.asked.count c.ask_next.new.asked.count (g.L.Links.seen c.args.links.now) (g.L.Links.seen c.asking.links) (g.L.Links.seen c.ask_next.new.links) c.args.subs.now.items c.asking.subs.items c.ask_next.new.subs.items
          (told_of c.args.board.now) (told_of c.asking.board) (told_of c.ask_next.new.board) c.asking.invariant.some c.in-Ok.ensures.some;
      live = live_to_more c.args.book.now (ask_of c.args.board.now) (g.L.Links.seen c.asking.links) (g.L.Links.seen c.ask_next.new.links) c.asking.subs.items c.ask_next.new.subs.items (told_of c.asking.board) (told_of c.ask_next.new.board) c.asking.number
          c.requires.of.book_well c.requires.of.origin_well c.requires.differ more c.asking.invariant.live
          (subst (λ (ask : TripAsk). (query : Query) → slice_index_or (slots c.args.book.now ask (told_of c.ask_next.new.board)) c.asking.number None ≡ Some query → Among query (map query_of c.ask_next.new.subs.items)) c.asking.invariant.same_ask c.in-Ok.ensures.live);
      traced = asks_step c.in-Ok.one c.args.turn c.args.book.now (ask_of c.args.board.now) (told_of c.args.board.now) (told_of c.asking.board) (told_of c.ask_next.new.board) c.args.subs.now.items c.asking.subs.items c.ask_next.new.subs.items
          c.args.asked.now.count c.asking.asked.count c.ask_next.new.asked.count c.asking.number c.args.trace.now c.asking.trace c.ask_next.new.trace c.requires.of.book_well c.requires.of.origin_well c.requires.differ
          (let long : length (slots c.args.book.now (ask_of c.args.board.now) (told_of c.args.board.now)) ≡ length c.args.book.now.spots + 3 = slots_length c.args.book.now (ask_of c.args.board.now) (told_of c.args.board.now) in
          omega (arith, long, c.asking-test.true, c.slots-count.ensures.count c.args.book.now c.requires.of))
          c.asking.invariant.traced c.asking.invariant.more.none_new (g.L.Links.seen c.asking.links) (g.L.Links.seen c.ask_next.new.links) c.in-Ok.ensures.some
          (subst (λ (ask : TripAsk). (query : Query) → slice_index_or (slots c.args.book.now ask (told_of c.ask_next.new.board)) c.asking.number None ≡ Some query → Among query (map query_of c.ask_next.new.subs.items)) c.asking.invariant.same_ask c.in-Ok.ensures.live)
          (subst (λ (ask : TripAsk). TracesThis c.in-Ok.one c.args.turn c.args.book.now ask c.asking.number c.asking.subs.items c.ask_next.new.subs.items (told_of c.asking.board) (told_of c.ask_next.new.board) c.asking.asked.count c.ask_next.new.asked.count c.asking.trace c.ask_next.new.trace) c.asking.invariant.same_ask c.in-Ok.ensures.traced);
      ordered = begins_step c.in-Ok.one c.args.turn c.asking.number c.args.book.now (ask_of c.args.board.now) (g.L.Links.seen c.args.links.now) (g.L.Links.seen c.asking.links) (g.L.Links.seen c.ask_next.new.links) c.args.subs.now.items c.asking.subs.items c.ask_next.new.subs.items
          (told_of c.args.board.now) (told_of c.asking.board) (told_of c.ask_next.new.board) c.args.asked.now.count c.asking.asked.count c.ask_next.new.asked.count c.args.trace.now c.asking.trace c.ask_next.new.trace
          c.asking.invariant.more.keeps more.same c.asking.invariant.traced.refused c.asking.invariant.traced.tells c.in-Ok.ensures.some
          (subst (λ (ask : TripAsk). TracesThis c.in-Ok.one c.args.turn c.args.book.now ask c.asking.number c.asking.subs.items c.ask_next.new.subs.items (told_of c.asking.board) (told_of c.ask_next.new.board) c.asking.asked.count c.ask_next.new.asked.count c.asking.trace c.ask_next.new.trace) c.asking.invariant.same_ask c.in-Ok.ensures.traced)
          c.in-Ok.ensures.ordered c.asking.invariant.ordered;
    }

pub returns-clause-none_missing : goal.returns-clause-none_missing
returns-clause-none_missing g c =
    none_missing c.args.book.now (ask_of c.args.board.now) (told_of c.asking.board) c.asking.subs.items c.asking.number c.requires.of.book_well c.requires.of.origin_well
    (omega (arith, c.asking-test.false, c.slots-count.ensures.count c.args.book.now c.requires.of)) c.asking.invariant.live

pub returns-clause-traced : goal.returns-clause-traced
returns-clause-traced g c =
    asks_end c.args.turn c.args.book.now (ask_of c.args.board.now) (told_of c.args.board.now) (told_of c.asking.board) c.args.subs.now.items c.asking.subs.items c.args.asked.now.count c.asking.asked.count c.asking.number c.args.trace.now c.asking.trace
    c.requires.of.book_well c.requires.of.origin_well (omega (arith, c.asking-test.false, c.slots-count.ensures.count c.args.book.now c.requires.of)) c.asking.invariant.traced

pub returns-clause-grew : goal.returns-clause-grew
returns-clause-grew g c = (_, c.asking.invariant.traced.adds)

pub returns-in-Err-clause-grew : goal.returns-in-Err-clause-grew
returns-in-Err-clause-grew g c = grew_on c.args.turn c.args.trace.now c.asking.trace c.ask_next.new.trace (_, c.asking.invariant.traced.adds) c.in-Err.ensures.grew

pub returns-clause-ordered : goal.returns-clause-ordered
returns-clause-ordered g c = c.asking.invariant.ordered
