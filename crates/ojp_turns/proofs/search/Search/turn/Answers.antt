use Rattle.std.proofs.Common.{◌≡◌, [], refl, true, Bool, subst, sym}
use Rattle.ojp_values.specs.declared.asks.TripAsk.{TripAsk}
use Rattle.ojp_records.specs.Wanted.{wanted}
use Rattle.ojp_labels.specs.Boards.{ask_of, told_of}
use Rattle.ojp_turns.specs.Turning.{Settles}
use Rattle.ojp_turns.proofs.CancelFacts.{stands_held}
use Rattle.ojp_turns.proofs.SearchFacts.{settled, turn_moved, turn_waits, turn_ends, turn_lost, none_kept, some_kept}
use Rattle.ojp_turns.specs.declared.search.Outcome.TheVariants as outcomes
use Rattle.ojp_turns.specs.declared.search.Turn.TheVariants as turns
use Rattle.ojp_turns.proofs.TraceTurnFacts.{traces_on, unless_done}
use Rattle.ojp_turns.proofs.search.Search.turn.Goals as goal

pub returns-then-moved-clause-turns : goal.returns-then-moved-clause-turns
returns-then-moved-clause-turns g c =
    turn_moved c.args.book.now (g.L.Links.seen c.args.links.now) (g.L.Links.seen c.run_turn-stepped.new.links) c.args.self.now
    (record c.args.self.now { board = c.run_turn-stepped.new.board; subs = c.run_turn-stepped.new.subs; asked = c.run_turn-stepped.new.asked; turns = c.saturating_add-self.result }) c.requires
    c.run_turn-stepped.ensures.of c.run_turn-stepped.ensures.ask c.run_turn-stepped.ensures.stands c.run_turn-stepped.ensures.bounded c.run_turn-stepped.ensures.more_asks c.run_turn-stepped.ensures.passes
    c.in-Ok.ensures.asked
    (subst (λ (b : Bool). Settles b c.args.book.now (ask_of c.args.self.now.board) (g.L.Links.seen c.args.links.now) (g.L.Links.seen c.run_turn-stepped.new.links) c.args.self.now.subs.items c.run_turn-stepped.new.subs.items c.args.self.now.asked.count c.run_turn-stepped.new.asked.count (told_of c.args.self.now.board) (told_of c.run_turn-stepped.new.board)) c.if-moved.true c.in-Ok.ensures.settles)
    refl (some_kept c.run_turn-stepped.new.subs.items c.run_turn-stepped.new.subs.len c.run_turn-stepped.new.subs.ok.0 c.if-not-is_empty.ensures)

pub returns-else-moved-clause-turns : goal.returns-else-moved-clause-turns
returns-else-moved-clause-turns g c =
    turn_waits c.args.book.now (g.L.Links.seen c.args.links.now) (g.L.Links.seen c.run_turn-stepped.new.links) c.args.self.now
    (record c.args.self.now { board = c.run_turn-stepped.new.board; subs = c.run_turn-stepped.new.subs; asked = c.run_turn-stepped.new.asked; turns = c.saturating_add-self.result }) c.requires
    c.run_turn-stepped.ensures.of c.run_turn-stepped.ensures.ask c.run_turn-stepped.ensures.stands c.run_turn-stepped.ensures.bounded c.run_turn-stepped.ensures.more_asks c.run_turn-stepped.ensures.passes
    c.in-Ok.ensures.asked
    (subst (λ (b : Bool). Settles b c.args.book.now (ask_of c.args.self.now.board) (g.L.Links.seen c.args.links.now) (g.L.Links.seen c.run_turn-stepped.new.links) c.args.self.now.subs.items c.run_turn-stepped.new.subs.items c.args.self.now.asked.count c.run_turn-stepped.new.asked.count (told_of c.args.self.now.board) (told_of c.run_turn-stepped.new.board)) c.if-moved.false c.in-Ok.ensures.settles)
    refl (some_kept c.run_turn-stepped.new.subs.items c.run_turn-stepped.new.subs.len c.run_turn-stepped.new.subs.ok.0 c.if-not-is_empty.ensures)

pub ended_as-requires-clause-settled : goal.ended_as-requires-clause-settled
ended_as-requires-clause-settled g c =
    subst (λ (ask : TripAsk). wanted c.args.book.now ask (told_of c.run_turn-stepped.new.board) ≡ []) (sym c.run_turn-stepped.ensures.ask)
    (settled c.args.book.now (g.L.Links.seen c.args.links.now) (g.L.Links.seen c.run_turn-stepped.new.links) c.args.self.now
    (record c.args.self.now { board = c.run_turn-stepped.new.board; subs = c.run_turn-stepped.new.subs; asked = c.run_turn-stepped.new.asked; turns = c.saturating_add-self.result }) c.requires
    c.run_turn-stepped.ensures.of c.run_turn-stepped.ensures.ask c.run_turn-stepped.ensures.stands c.run_turn-stepped.ensures.bounded c.run_turn-stepped.ensures.more_asks c.run_turn-stepped.ensures.passes
    c.in-Ok.moved c.in-Ok.ensures.settles (none_kept c.run_turn-stepped.new.subs.items c.run_turn-stepped.new.subs.len c.run_turn-stepped.new.subs.ok.0 c.if-not-is_empty.ensures))

pub cancel_rest-requires : goal.cancel_rest-requires
cancel_rest-requires g c =
    stands_held c.args.book.now (ask_of c.args.self.now.board) (told_of c.run_turn-stepped.new.board) (g.L.Links.seen c.run_turn-stepped.new.links) c.run_turn-stepped.new.subs.items c.run_turn-stepped.ensures.stands

pub returns-else-not-is_empty-clause-turns : goal.returns-else-not-is_empty-clause-turns
returns-else-not-is_empty-clause-turns g c =
    turn_ends c.args.book.now (g.L.Links.seen c.args.links.now) (g.L.Links.seen c.run_turn-stepped.new.links) c.args.self.now
    (record c.args.self.now { board = c.run_turn-stepped.new.board; subs = c.run_turn-stepped.new.subs; asked = c.run_turn-stepped.new.asked; turns = c.saturating_add-self.result; done = true }) c.requires
    c.run_turn-stepped.ensures.of c.run_turn-stepped.ensures.ask c.run_turn-stepped.ensures.stands c.run_turn-stepped.ensures.bounded c.run_turn-stepped.ensures.more_asks c.run_turn-stepped.ensures.passes
    c.ended_as.result c.ended_as.ensures refl (none_kept c.run_turn-stepped.new.subs.items c.run_turn-stepped.new.subs.len c.run_turn-stepped.new.subs.ok.0 c.if-not-is_empty.ensures)

pub returns-in-Err-clause-turns : goal.returns-in-Err-clause-turns
returns-in-Err-clause-turns g c =
    turn_lost c.args.book.now (g.L.Links.seen c.args.links.now) (g.L.Links.seen c.run_turn-stepped.new.links) (g.L.Links.seen c.cancel_rest.new.links) c.args.self.now
    (record c.args.self.now { board = c.run_turn-stepped.new.board; subs = c.cancel_rest.new.subs; asked = c.run_turn-stepped.new.asked; turns = c.saturating_add-self.result; done = true })
    c.run_turn-stepped.ensures.of c.run_turn-stepped.ensures.ask c.run_turn-stepped.ensures.bounded c.run_turn-stepped.ensures.more_asks c.run_turn-stepped.ensures.passes
    c.cancel_rest.ensures.keeps c.cancel_rest.ensures.rejections c.cancel_rest.ensures.none_live refl

pub returns-then-moved-clause-traces : goal.returns-then-moved-clause-traces
returns-then-moved-clause-traces g c =
    traces_on c.args.book.now c.args.self.now (record c.args.self.now { board = c.run_turn-stepped.new.board; subs = c.run_turn-stepped.new.subs; asked = c.run_turn-stepped.new.asked; turns = c.saturating_add-self.result }) c.args.trace.now c.run_turn-stepped.new.trace turns.Moved
    c.saturating_add-self.ensures c.run_turn-stepped.ensures.grew c.in-Ok.ensures.traced

pub returns-else-moved-clause-traces : goal.returns-else-moved-clause-traces
returns-else-moved-clause-traces g c =
    traces_on c.args.book.now c.args.self.now (record c.args.self.now { board = c.run_turn-stepped.new.board; subs = c.run_turn-stepped.new.subs; asked = c.run_turn-stepped.new.asked; turns = c.saturating_add-self.result }) c.args.trace.now c.run_turn-stepped.new.trace turns.Waits
    c.saturating_add-self.ensures c.run_turn-stepped.ensures.grew c.in-Ok.ensures.traced

pub returns-else-not-is_empty-clause-traces : goal.returns-else-not-is_empty-clause-traces
returns-else-not-is_empty-clause-traces g c =
    traces_on c.args.book.now c.args.self.now (record c.args.self.now { board = c.run_turn-stepped.new.board; subs = c.run_turn-stepped.new.subs; asked = c.run_turn-stepped.new.asked; turns = c.saturating_add-self.result; done = true }) c.args.trace.now c.run_turn-stepped.new.trace (turns.Done c.ended_as.result)
    c.saturating_add-self.ensures c.run_turn-stepped.ensures.grew (unless_done c.ended_as.result _ c.in-Ok.ensures.traced)

pub returns-in-Err-clause-traces : goal.returns-in-Err-clause-traces
returns-in-Err-clause-traces g c =
    traces_on c.args.book.now c.args.self.now (record c.args.self.now { board = c.run_turn-stepped.new.board; subs = c.cancel_rest.new.subs; asked = c.run_turn-stepped.new.asked; turns = c.saturating_add-self.result; done = true }) c.args.trace.now c.run_turn-stepped.new.trace (turns.Done outcomes.NoMemory)
    c.saturating_add-self.ensures c.run_turn-stepped.ensures.grew tt

pub returns-else-not-is_empty-clause-ordered : goal.returns-else-not-is_empty-clause-ordered
returns-else-not-is_empty-clause-ordered g c = unless_done c.ended_as.result _ c.in-Ok.ensures.ordered
