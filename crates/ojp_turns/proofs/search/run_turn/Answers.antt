use Rattle.std.proofs.Common.{◌≡◌, ◌∙◌, map, filter, sym, subst}
use Rattle.ojp_values.specs.Lists.{Among}
use Rattle.ojp_records.specs.declared.queries.Query.{Query}
use Rattle.ojp_records.specs.Wanted.{wanted}
use Rattle.ojp_values.specs.declared.asks.TripAsk.{TripAsk}
use Rattle.ojp_labels.specs.Boards.{ask_of, told_of}
use Rattle.ojp_turns.specs.Held.{StandsIn, query_of}
use Rattle.ojp_turns.specs.Asking.{is_still_wanted, Cancels, IsAsking, AsksMore}
use Rattle.ojp_turns.proofs.AskFacts.{regions_kept}
use Rattle.ojp_turns.proofs.PollFacts.{keeps_on}
use Rattle.ojp_turns.proofs.TurnFacts.{passes_round, passes_turn, settles, asking_next}
use Rattle.ojp_turns.specs.Tracing.{Adds, drops_of, TracesAsks}
use Rattle.ojp_turns.proofs.TraceFacts.{grew_on}
use Rattle.ojp_turns.proofs.TraceTurnFacts.{live_goes, traces_turn}
use Rattle.ojp_turns.proofs.OrderTurnFacts.{turn_order}
use Rattle.ojp_turns.proofs.search.run_turn.Goals as goal

pub returns-in_default-clause-passes : goal.returns-in_default-clause-passes
returns-in_default-clause-passes g c =
    passes_round c.args.book.now (ask_of c.args.board.now) (g.L.Links.seen c.args.links.now) (g.L.Links.seen c.poll_all.new.links) (g.L.Links.seen c.poll_all.new.links) (g.L.Links.seen c.poll_all.new.links)
    c.args.subs.now.items c.poll_all.new.subs.items c.poll_all.new.subs.items c.poll_all.new.subs.items (told_of c.args.board.now) (told_of c.poll_all.new.board) (told_of c.poll_all.new.board) c.poll_all.ensures.round

pub ask_all-requires-clause-regions : goal.ask_all-requires-clause-regions
ask_all-requires-clause-regions g c =
    regions_kept c.args.book.now (g.L.Links.seen c.args.links.now) (g.L.Links.seen c.cancel_all-cancelled.new.links)
    (keeps_on (g.L.Links.seen c.args.links.now) (g.L.Links.seen c.poll_all.new.links) (g.L.Links.seen c.cancel_all-cancelled.new.links) c.poll_all.ensures.round.keeps c.cancel_all-cancelled.ensures.keeps) c.requires.regions

pub ask_all-requires-clause-asking : goal.ask_all-requires-clause-asking
ask_all-requires-clause-asking g c =
    let same : ask_of c.poll_all.new.board ≡ ask_of c.args.board.now = c.poll_all.ensures.ask in
    subst (λ (ask : TripAsk). IsAsking c.args.book.now ask (told_of c.poll_all.new.board) c.cancel_all-cancelled.new.subs.items c.args.asked.now.last.items c.args.asked.now.count (g.L.Links.seen c.cancel_all-cancelled.new.links)) (sym same)
    (asking_next c.args.book.now (ask_of c.args.board.now) (g.L.Links.seen c.args.links.now) (g.L.Links.seen c.poll_all.new.links) (g.L.Links.seen c.cancel_all-cancelled.new.links)
    c.args.subs.now.items c.poll_all.new.subs.items c.cancel_all-cancelled.new.subs.items (told_of c.args.board.now) (told_of c.poll_all.new.board) c.in-Ok.came c.args.asked.now.last.items c.args.asked.now.count c.in-Ok.ensures.whole
    (subst (λ (ask : TripAsk). c.cancel_all-cancelled.new.subs.items ≡ filter (is_still_wanted c.args.book.now ask (told_of c.poll_all.new.board)) c.poll_all.new.subs.items) same c.cancel_all-cancelled.ensures.kept)
    c.requires.asked c.requires.bounded
    (subst (λ (ask : TripAsk). StandsIn c.args.book.now ask (told_of c.poll_all.new.board) c.cancel_all-cancelled.new.subs.items (g.L.Links.seen c.cancel_all-cancelled.new.links)) same c.cancel_all-cancelled.ensures.stands))

pub returns-in_default-ask_all-clause-passes : goal.returns-in_default-ask_all-clause-passes
returns-in_default-ask_all-clause-passes g c =
    let same : ask_of c.poll_all.new.board ≡ ask_of c.args.board.now = c.poll_all.ensures.ask in
    passes_turn c.args.book.now (ask_of c.args.board.now) (g.L.Links.seen c.args.links.now) (g.L.Links.seen c.poll_all.new.links) (g.L.Links.seen c.cancel_all-cancelled.new.links) (g.L.Links.seen c.ask_all.new.links)
    c.args.subs.now.items c.poll_all.new.subs.items c.cancel_all-cancelled.new.subs.items c.ask_all.new.subs.items (told_of c.args.board.now) (told_of c.poll_all.new.board) (told_of c.ask_all.new.board) c.poll_all.ensures.round
    c.cancel_all-cancelled.ensures.keeps c.cancel_all-cancelled.ensures.rejections
    (subst (λ (ask : TripAsk). AsksMore c.args.book.now ask (g.L.Links.seen c.cancel_all-cancelled.new.links) (g.L.Links.seen c.ask_all.new.links) c.cancel_all-cancelled.new.subs.items c.ask_all.new.subs.items (told_of c.poll_all.new.board) (told_of c.ask_all.new.board)) same c.ask_all.ensures.more)

pub returns-clause-passes : goal.returns-clause-passes
returns-clause-passes g c =
    let same : ask_of c.poll_all.new.board ≡ ask_of c.args.board.now = c.poll_all.ensures.ask in
    passes_turn c.args.book.now (ask_of c.args.board.now) (g.L.Links.seen c.args.links.now) (g.L.Links.seen c.poll_all.new.links) (g.L.Links.seen c.cancel_all-cancelled.new.links) (g.L.Links.seen c.ask_all.new.links)
    c.args.subs.now.items c.poll_all.new.subs.items c.cancel_all-cancelled.new.subs.items c.ask_all.new.subs.items (told_of c.args.board.now) (told_of c.poll_all.new.board) (told_of c.ask_all.new.board) c.poll_all.ensures.round
    c.cancel_all-cancelled.ensures.keeps c.cancel_all-cancelled.ensures.rejections
    (subst (λ (ask : TripAsk). AsksMore c.args.book.now ask (g.L.Links.seen c.cancel_all-cancelled.new.links) (g.L.Links.seen c.ask_all.new.links) c.cancel_all-cancelled.new.subs.items c.ask_all.new.subs.items (told_of c.poll_all.new.board) (told_of c.ask_all.new.board)) same c.ask_all.ensures.more)

pub returns-clause-settles : goal.returns-clause-settles
returns-clause-settles g c =
    let same : ask_of c.poll_all.new.board ≡ ask_of c.args.board.now = c.poll_all.ensures.ask in
    let asking : IsAsking c.args.book.now (ask_of c.args.board.now) (told_of c.ask_all.new.board) c.ask_all.new.subs.items c.ask_all.new.asked.last.items c.ask_all.new.asked.count (g.L.Links.seen c.ask_all.new.links) =
    subst (λ (ask : TripAsk). IsAsking c.args.book.now ask (told_of c.ask_all.new.board) c.ask_all.new.subs.items c.ask_all.new.asked.last.items c.ask_all.new.asked.count (g.L.Links.seen c.ask_all.new.links)) same c.ask_all.ensures.asking in
    settles c.args.book.now (ask_of c.args.board.now) (g.L.Links.seen c.args.links.now) (g.L.Links.seen c.poll_all.new.links) (g.L.Links.seen c.cancel_all-cancelled.new.links) (g.L.Links.seen c.ask_all.new.links)
    c.args.subs.now.items c.poll_all.new.subs.items c.cancel_all-cancelled.new.subs.items c.ask_all.new.subs.items (told_of c.args.board.now) (told_of c.poll_all.new.board) (told_of c.ask_all.new.board)
    c.in-Ok.came c.cancel_all-cancelled.result c.in-Ok-ask_all.some c.args.asked.now.count c.ask_all.new.asked.count c.in-Ok.ensures.whole
    (subst (λ (ask : TripAsk). c.cancel_all-cancelled.new.subs.items ≡ filter (is_still_wanted c.args.book.now ask (told_of c.poll_all.new.board)) c.poll_all.new.subs.items) same c.cancel_all-cancelled.ensures.kept)
    c.cancel_all-cancelled.ensures.same
    (subst (λ (ask : TripAsk). Cancels c.cancel_all-cancelled.result c.args.book.now ask (told_of c.poll_all.new.board) (g.L.Links.seen c.poll_all.new.links) (g.L.Links.seen c.cancel_all-cancelled.new.links) c.poll_all.new.subs.items c.cancel_all-cancelled.new.subs.items) same c.cancel_all-cancelled.ensures.cancels)
    (subst (λ (ask : TripAsk). AsksMore c.args.book.now ask (g.L.Links.seen c.cancel_all-cancelled.new.links) (g.L.Links.seen c.ask_all.new.links) c.cancel_all-cancelled.new.subs.items c.ask_all.new.subs.items (told_of c.poll_all.new.board) (told_of c.ask_all.new.board)) same c.ask_all.ensures.more)
    c.in-Ok-ask_all.ensures.some asking.all_wanted c.requires.stands asking.stands c.cancel_all-cancelled.ensures.patience
    (subst (λ (ask : TripAsk). (query : Query) → Among query (wanted c.args.book.now ask (told_of c.ask_all.new.board)) → Among query (map query_of c.ask_all.new.subs.items)) same c.in-Ok-ask_all.ensures.none_missing)

pub returns-clause-traced : goal.returns-clause-traced
returns-clause-traced g c =
    let same : ask_of c.poll_all.new.board ≡ ask_of c.args.board.now = c.poll_all.ensures.ask in
    traces_turn c.args.turn c.args.book.now (ask_of c.args.board.now) c.args.subs.now.items c.poll_all.new.subs.items c.cancel_all-cancelled.new.subs.items c.ask_all.new.subs.items (told_of c.args.board.now) (told_of c.poll_all.new.board) (told_of c.ask_all.new.board)
    c.args.asked.now.count c.ask_all.new.asked.count c.args.trace.now c.poll_all.new.trace c.trace_drops.new.trace c.ask_all.new.trace c.in-Ok.ensures.traced
    (live_goes c.args.book.now (ask_of c.args.board.now) (g.L.Links.seen c.args.links.now) (g.L.Links.seen c.poll_all.new.links) c.args.subs.now.items c.poll_all.new.subs.items (told_of c.args.board.now) (told_of c.poll_all.new.board) c.in-Ok.came c.in-Ok.ensures.whole c.poll_all.ensures.stands)
    (subst (λ (ask : TripAsk). Adds c.args.turn c.poll_all.new.trace c.trace_drops.new.trace (drops_of c.args.book.now ask (told_of c.poll_all.new.board) c.poll_all.new.subs.items)) same c.in-Ok-trace_drops.ensures.ok)
    (subst (λ (ask : TripAsk). c.cancel_all-cancelled.new.subs.items ≡ filter (is_still_wanted c.args.book.now ask (told_of c.poll_all.new.board)) c.poll_all.new.subs.items) same c.cancel_all-cancelled.ensures.kept)
    (subst (λ (ask : TripAsk). TracesAsks c.args.turn c.args.book.now ask c.cancel_all-cancelled.new.subs.items c.ask_all.new.subs.items (told_of c.poll_all.new.board) (told_of c.ask_all.new.board) c.args.asked.now.count c.ask_all.new.asked.count c.trace_drops.new.trace c.ask_all.new.trace) same c.in-Ok-ask_all.ensures.traced)

pub returns-in_default-trace_drops-clause-passes : goal.returns-in_default-trace_drops-clause-passes
returns-in_default-trace_drops-clause-passes g c =
    passes_round c.args.book.now (ask_of c.args.board.now) (g.L.Links.seen c.args.links.now) (g.L.Links.seen c.poll_all.new.links) (g.L.Links.seen c.poll_all.new.links) (g.L.Links.seen c.poll_all.new.links)
    c.args.subs.now.items c.poll_all.new.subs.items c.poll_all.new.subs.items c.poll_all.new.subs.items (told_of c.args.board.now) (told_of c.poll_all.new.board) (told_of c.poll_all.new.board) c.poll_all.ensures.round

pub returns-in_default-trace_drops-clause-grew : goal.returns-in_default-trace_drops-clause-grew
returns-in_default-trace_drops-clause-grew g c = grew_on c.args.turn c.args.trace.now c.poll_all.new.trace c.trace_drops.new.trace c.poll_all.ensures.grew c.trace_drops.ensures.grew

pub returns-in_default-ask_all-clause-grew : goal.returns-in_default-ask_all-clause-grew
returns-in_default-ask_all-clause-grew g c =
    grew_on c.args.turn c.args.trace.now c.trace_drops.new.trace c.ask_all.new.trace (grew_on c.args.turn c.args.trace.now c.poll_all.new.trace c.trace_drops.new.trace c.poll_all.ensures.grew c.trace_drops.ensures.grew) c.ask_all.ensures.grew

pub returns-clause-grew : goal.returns-clause-grew
returns-clause-grew g c =
    grew_on c.args.turn c.args.trace.now c.trace_drops.new.trace c.ask_all.new.trace (grew_on c.args.turn c.args.trace.now c.poll_all.new.trace c.trace_drops.new.trace c.poll_all.ensures.grew c.trace_drops.ensures.grew) c.ask_all.ensures.grew

pub returns-clause-ordered : goal.returns-clause-ordered
returns-clause-ordered g c =
    let same : ask_of c.poll_all.new.board ≡ ask_of c.args.board.now = c.poll_all.ensures.ask in
    turn_order c.args.turn c.args.book.now (ask_of c.args.board.now) (g.L.Links.seen c.args.links.now) (g.L.Links.seen c.poll_all.new.links) (g.L.Links.seen c.cancel_all-cancelled.new.links) (g.L.Links.seen c.ask_all.new.links)
    c.args.subs.now.items c.poll_all.new.subs.items c.cancel_all-cancelled.new.subs.items c.ask_all.new.subs.items (told_of c.args.board.now) (told_of c.poll_all.new.board) (told_of c.ask_all.new.board)
    c.args.asked.now.count c.ask_all.new.asked.count c.args.trace.now c.poll_all.new.trace c.trace_drops.new.trace c.ask_all.new.trace c.in-Ok.ensures.traced
    (live_goes c.args.book.now (ask_of c.args.board.now) (g.L.Links.seen c.args.links.now) (g.L.Links.seen c.poll_all.new.links) c.args.subs.now.items c.poll_all.new.subs.items (told_of c.args.board.now) (told_of c.poll_all.new.board) c.in-Ok.came c.in-Ok.ensures.whole c.poll_all.ensures.stands)
    (subst (λ (ask : TripAsk). Adds c.args.turn c.poll_all.new.trace c.trace_drops.new.trace (drops_of c.args.book.now ask (told_of c.poll_all.new.board) c.poll_all.new.subs.items)) same c.in-Ok-trace_drops.ensures.ok)
    (subst (λ (ask : TripAsk). c.cancel_all-cancelled.new.subs.items ≡ filter (is_still_wanted c.args.book.now ask (told_of c.poll_all.new.board)) c.poll_all.new.subs.items) same c.cancel_all-cancelled.ensures.kept)
    (subst (λ (ask : TripAsk). TracesAsks c.args.turn c.args.book.now ask c.cancel_all-cancelled.new.subs.items c.ask_all.new.subs.items (told_of c.poll_all.new.board) (told_of c.ask_all.new.board) c.args.asked.now.count c.ask_all.new.asked.count c.trace_drops.new.trace c.ask_all.new.trace) same c.in-Ok-ask_all.ensures.traced)
    c.cancel_all-cancelled.ensures.same
    (subst (λ (ask : TripAsk). AsksMore c.args.book.now ask (g.L.Links.seen c.cancel_all-cancelled.new.links) (g.L.Links.seen c.ask_all.new.links) c.cancel_all-cancelled.new.subs.items c.ask_all.new.subs.items (told_of c.poll_all.new.board) (told_of c.ask_all.new.board)) same c.ask_all.ensures.more)
    c.requires.stands.are_open.once
    (keeps_on (g.L.Links.seen c.args.links.now) (g.L.Links.seen c.poll_all.new.links) (g.L.Links.seen c.cancel_all-cancelled.new.links) c.poll_all.ensures.round.keeps c.cancel_all-cancelled.ensures.keeps)
    c.in-Ok.ensures.ordered c.in-Ok-ask_all.ensures.ordered (c.cancel_all-cancelled.ensures.made ∙ c.poll_all.ensures.made)
