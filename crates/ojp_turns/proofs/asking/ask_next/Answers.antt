use Rattle.std.proofs.Common.{sym, length, ltb}
use Rattle.ojp_labels.specs.Boards.{ask_of, told_of}
use Rattle.ojp_turns.proofs.TraceAskFacts.{traces_this}
use Rattle.ojp_turns.proofs.asking.ask_next.Goals as goal

pub returns-in-Ok-trace_ask-clause-traced : goal.returns-in-Ok-trace_ask-clause-traced
returns-in-Ok-trace_ask-clause-traced g c =
    traces_this c.args.book.now (ask_of c.args.board.now) (told_of c.args.board.now) (told_of c.ask_at.new.board) c.args.subs.now.items c.ask_at.new.subs.items c.ask_at.new.asked.last.items c.args.asked.now.count c.ask_at.new.asked.count _ c.args.number c.args.turn c.in-Some.query
    c.args.trace.now c.trace_ask.new.trace c.in-Ok.some _ c.requires.of.book_well c.requires.of.origin_well c.if-not-some.false c.in-Ok.ensures.this (sym c.in-Some.ensures) c.count.ensures (λ i. ltb (length (c.told-before.ensures i)) (length (c.told.ensures i))) c.in-Ok-trace_ask.ensures.ok
