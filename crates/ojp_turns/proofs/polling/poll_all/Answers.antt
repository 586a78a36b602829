use Rattle.std.proofs.Common.{◌<◌, ◌≤◌, length, Ok, Err, refl, ◌∙◌, subst, arith, rules}
use Rattle.ojp_values.specs.declared.asks.TripAsk.{TripAsk}
use Rattle.ojp_labels.specs.Boards.{ask_of, told_of}
use Rattle.ojp_turns.specs.Polling.{FirstPolled}
use Rattle.ojp_turns.specs.Held.{StandsIn}
use Rattle.ojp_turns.proofs.RoundFacts.{round_start, poll_more, poll_lost, some_ahead, round_ends}
use Rattle.ojp_turns.proofs.TraceFacts.{grew_same}
use Rattle.ojp_turns.proofs.TracePollFacts.{ends_start, ends_more}
use Rattle.ojp_turns.specs.Ordering.{FirstOrder}
use Rattle.ojp_turns.proofs.OrderPollFacts.{order_start, order_more, order_end}
use Rattle.ojp_turns.proofs.polling.poll_all.Goals as goal

pub polling-init : goal.polling-init
polling-init g c = record {
  of = c.requires.of;
  same_ask = refl;
  stands = c.requires.stands;
  polls = round_start c.args.book.now (ask_of c.args.board.now) (g.L.Links.seen c.args.links.now) c.args.subs.now.items (told_of c.args.board.now);
  traced = ends_start c.args.turn c.args.subs.now.items (told_of c.args.board.now) c.args.trace.now;
  made = refl;
  ordered = order_start c.args.turn c.args.book.now (ask_of c.args.board.now) (g.L.Links.seen c.args.links.now) c.args.subs.now.items (told_of c.args.board.now);
}

pub poll_next-requires-clause-some : goal.poll_next-requires-clause-some
poll_next-requires-clause-some g c =
    some_ahead c.args.book.now (ask_of c.args.board.now) (g.L.Links.seen c.args.links.now) (g.L.Links.seen c.polling.links) c.args.subs.now.items c.polling.subs.items (told_of c.args.board.now) (told_of c.polling.board) c.polling.moved c.polling.counter
    (first_of (search rules, grind (arith, rules))) c.polling.invariant.polls

pub returns-in-Err-clause-round : goal.returns-in-Err-clause-round
returns-in-Err-clause-round g c =
    let below : c.polling.counter < length c.args.subs.now.items = first_of (search rules, grind (arith, rules)) in
    poll_lost c.args.book.now (ask_of c.args.board.now) (g.L.Links.seen c.args.links.now) (g.L.Links.seen c.polling.links) (g.L.Links.seen c.poll_next.new.links) c.args.subs.now.items c.polling.subs.items c.poll_next.new.subs.items
    (told_of c.args.board.now) (told_of c.polling.board) (told_of c.poll_next.new.board) c.polling.moved c.polling.counter c.in-Err.field-0 c.requires.stands.are_live.apart below c.polling.invariant.polls
    (subst (λ (ask : TripAsk). FirstPolled c.args.book.now ask (g.L.Links.seen c.polling.links) (g.L.Links.seen c.poll_next.new.links) c.polling.subs.items c.poll_next.new.subs.items (told_of c.polling.board) (told_of c.poll_next.new.board) (Err c.in-Err.field-0)) c.polling.invariant.same_ask c.in-Err.ensures.polled)

pub polling-preserved : goal.polling-preserved
polling-preserved g c =
    let below : c.polling.counter < length c.args.subs.now.items = first_of (search rules, grind (arith, rules)) in
    record {
      of = c.in-Ok.ensures.of;
      same_ask = c.in-Ok.ensures.ask ∙ c.polling.invariant.same_ask;
      stands = subst (λ (ask : TripAsk). StandsIn c.args.book.now ask (told_of c.poll_next.new.board) c.poll_next.new.subs.items (g.L.Links.seen c.poll_next.new.links)) c.polling.invariant.same_ask c.in-Ok.ensures.stands;
      polls = poll_more c.args.book.now (ask_of c.args.board.now) (g.L.Links.seen c.args.links.now) (g.L.Links.seen c.polling.links) (g.L.Links.seen c.poll_next.new.links) c.args.subs.now.items c.polling.subs.items c.poll_next.new.subs.items
          (told_of c.args.board.now) (told_of c.polling.board) (told_of c.poll_next.new.board) c.polling.moved c.in-Ok.one c.polling.counter c.requires.stands.are_live.apart below c.polling.invariant.polls
          (subst (λ (ask : TripAsk). FirstPolled c.args.book.now ask (g.L.Links.seen c.polling.links) (g.L.Links.seen c.poll_next.new.links) c.polling.subs.items c.poll_next.new.subs.items (told_of c.polling.board) (told_of c.poll_next.new.board) (Ok c.in-Ok.one)) c.polling.invariant.same_ask c.in-Ok.ensures.polled);
      traced = ends_more c.args.book.now (ask_of c.args.board.now) (g.L.Links.seen c.args.links.now) (g.L.Links.seen c.polling.links) (g.L.Links.seen c.poll_next.new.links) c.args.subs.now.items c.polling.subs.items c.poll_next.new.subs.items
          (told_of c.args.board.now) (told_of c.polling.board) (told_of c.poll_next.new.board) c.polling.moved c.polling.counter (Ok c.in-Ok.one) c.polling.invariant.polls
          (subst (λ (ask : TripAsk). FirstPolled c.args.book.now ask (g.L.Links.seen c.polling.links) (g.L.Links.seen c.poll_next.new.links) c.polling.subs.items c.poll_next.new.subs.items (told_of c.polling.board) (told_of c.poll_next.new.board) (Ok c.in-Ok.one)) c.polling.invariant.same_ask c.in-Ok.ensures.polled)
          c.args.turn c.args.trace.now c.polling.trace c.poll_next.new.trace c.requires.stands.are_open.once below c.polling.invariant.traced c.in-Ok.ensures.traced;
      made = c.in-Ok.ensures.made ∙ c.polling.invariant.made;
      ordered = order_more c.args.turn c.polling.counter c.args.book.now (ask_of c.args.board.now) (g.L.Links.seen c.args.links.now) (g.L.Links.seen c.polling.links) (g.L.Links.seen c.poll_next.new.links) c.args.subs.now.items c.polling.subs.items c.poll_next.new.subs.items
          (told_of c.args.board.now) (told_of c.polling.board) (told_of c.poll_next.new.board) c.polling.moved (Ok c.in-Ok.one) below c.polling.invariant.polls
          (subst (λ (ask : TripAsk). FirstPolled c.args.book.now ask (g.L.Links.seen c.polling.links) (g.L.Links.seen c.poll_next.new.links) c.polling.subs.items c.poll_next.new.subs.items (told_of c.polling.board) (told_of c.poll_next.new.board) (Ok c.in-Ok.one)) c.polling.invariant.same_ask c.in-Ok.ensures.polled)
          c.polling.invariant.stands
          (subst (λ (ask : TripAsk). FirstOrder c.args.book.now ask (g.L.Links.seen c.polling.links) (g.L.Links.seen c.poll_next.new.links) c.polling.subs.items c.poll_next.new.subs.items (told_of c.polling.board) (told_of c.poll_next.new.board)) c.polling.invariant.same_ask c.in-Ok.ensures.ordered)
          c.polling.invariant.ordered;
    }

pub returns-clause-whole : goal.returns-clause-whole
returns-clause-whole g c =
    let whole : length c.args.subs.now.items ≤ c.polling.counter = first_of (search rules, grind (arith, rules)) in
    round_ends c.args.book.now (ask_of c.args.board.now) (g.L.Links.seen c.args.links.now) (g.L.Links.seen c.polling.links) c.args.subs.now.items c.polling.subs.items (told_of c.args.board.now) (told_of c.polling.board) c.polling.moved c.polling.counter whole c.polling.invariant.polls

pub returns-clause-traced : goal.returns-clause-traced
returns-clause-traced g c = c.polling.invariant.traced

pub returns-clause-grew : goal.returns-clause-grew
returns-clause-grew g c = (_, c.polling.invariant.traced.adds)

pub returns-in-Err-clause-grew : goal.returns-in-Err-clause-grew
returns-in-Err-clause-grew g c = grew_same c.args.turn c.args.trace.now c.polling.trace c.poll_next.new.trace (_, c.polling.invariant.traced.adds) c.in-Err.ensures.err

pub returns-clause-made : goal.returns-clause-made
returns-clause-made g c = c.polling.invariant.made

pub returns-in-Err-clause-made : goal.returns-in-Err-clause-made
returns-in-Err-clause-made g c = c.in-Err.ensures.made ∙ c.polling.invariant.made

pub returns-clause-ordered : goal.returns-clause-ordered
returns-clause-ordered g c =
    let whole : length c.args.subs.now.items ≤ c.polling.counter = first_of (search rules, grind (arith, rules)) in
    order_end c.args.turn c.polling.counter c.args.book.now (ask_of c.args.board.now) (g.L.Links.seen c.args.links.now) (g.L.Links.seen c.polling.links) c.args.subs.now.items c.polling.subs.items (told_of c.args.board.now) (told_of c.polling.board) whole c.polling.invariant.ordered
