use Rattle.std.proofs.Common.{ℕ, ◌<◌, ◌+◌, ◌^◌, sym, ap, arith}
use Rattle.ojp_labels.specs.Boards.{ask_of, told_of}
use Rattle.ojp_turns.proofs.AskFacts.{asks_none, asks_lost, asking_lost, last_live, slot_is_wanted, slot_missing, count_fits, slot_more, slot_asking, slot_live}
use Rattle.ojp_turns.proofs.TraceAskFacts.{asks_this}
use Rattle.ojp_turns.proofs.asking.ask_at.Goals as goal

pub returns-in_default-clause-more : goal.returns-in_default-clause-more
returns-in_default-clause-more g c = asks_none c.args.book.now (ask_of c.args.board.now) (g.L.Links.seen c.args.links.now) c.args.subs.now.items (told_of c.args.board.now)

pub returns-then-is_last-clause-more : goal.returns-then-is_last-clause-more
returns-then-is_last-clause-more g c = asks_none c.args.book.now (ask_of c.args.board.now) (g.L.Links.seen c.args.links.now) c.args.subs.now.items (told_of c.args.board.now)

pub returns-then-is_last-clause-live : goal.returns-then-is_last-clause-live
returns-then-is_last-clause-live g c =
    last_live c.args.book.now (ask_of c.args.board.now) (told_of c.args.board.now) (told_of c.args.board.now) (g.L.Links.seen c.args.links.now) (g.L.Links.seen c.args.links.now) c.args.subs.now.items c.args.subs.now.items c.args.asked.now.last.items c.args.asked.now.count
    c.args.number c.in-Some.query c.requires.of.book_well c.requires.of.origin_well c.requires.differ c.requires.of.record_of c.requires.asking c.requires.within (sym c.in-Some.ensures) c.is_last.result c.if-is_last.true c.is_last.ensures

pub overflow_add-count : goal.overflow_add-count
overflow_add-count g c =
    let fits : c.args.asked.now.count + 1 < 2 ^ 64 =
    count_fits c.args.book.now (ask_of c.args.board.now) (told_of c.args.board.now) (told_of c.args.board.now) (g.L.Links.seen c.args.links.now) (g.L.Links.seen c.args.links.now) c.args.subs.now.items c.args.subs.now.items c.args.asked.now.last.items c.args.asked.now.count
    c.args.number c.in-Some.query c.requires.of.book_well c.requires.of.origin_well c.requires.differ c.requires.of.record_of c.requires.asking c.requires.within (sym c.in-Some.ensures) c.is_last.result c.if-is_last.false c.is_last.ensures in
    omega (arith, fits, c.count.ensures)

pub ask_one-requires-clause-wanted : goal.ask_one-requires-clause-wanted
ask_one-requires-clause-wanted g c =
    slot_is_wanted c.args.book.now (ask_of c.args.board.now) (told_of c.args.board.now) (told_of c.args.board.now) (g.L.Links.seen c.args.links.now) (g.L.Links.seen c.args.links.now) c.args.subs.now.items c.args.subs.now.items c.args.asked.now.last.items c.args.asked.now.count
    c.args.number c.in-Some.query c.requires.of.book_well c.requires.of.origin_well c.requires.differ c.requires.of.record_of c.requires.asking c.requires.within (sym c.in-Some.ensures)

pub ask_one-requires-clause-missing : goal.ask_one-requires-clause-missing
ask_one-requires-clause-missing g c =
    slot_missing c.args.book.now (ask_of c.args.board.now) (told_of c.args.board.now) (told_of c.args.board.now) (g.L.Links.seen c.args.links.now) (g.L.Links.seen c.args.links.now) c.args.subs.now.items c.args.subs.now.items c.args.asked.now.last.items c.args.asked.now.count
    c.args.number c.in-Some.query c.requires.of.book_well c.requires.of.origin_well c.requires.differ c.requires.of.record_of c.requires.asking c.requires.within (sym c.in-Some.ensures) c.is_last.result c.if-is_last.false c.is_last.ensures

pub note-requires-clause-fits : goal.note-requires-clause-fits
note-requires-clause-fits g c =
    count_fits c.args.book.now (ask_of c.args.board.now) (told_of c.args.board.now) (told_of c.args.board.now) (g.L.Links.seen c.args.links.now) (g.L.Links.seen c.args.links.now) c.args.subs.now.items c.args.subs.now.items c.args.asked.now.last.items c.args.asked.now.count
    c.args.number c.in-Some.query c.requires.of.book_well c.requires.of.origin_well c.requires.differ c.requires.of.record_of c.requires.asking c.requires.within (sym c.in-Some.ensures) c.is_last.result c.if-is_last.false c.is_last.ensures

pub returns-in-Ok-clause-asking : goal.returns-in-Ok-clause-asking
returns-in-Ok-clause-asking g c =
    slot_asking c.args.book.now (ask_of c.args.board.now) (told_of c.args.board.now) (told_of c.ask_one.new.board) (g.L.Links.seen c.args.links.now) (g.L.Links.seen c.ask_one.new.links) c.args.subs.now.items c.ask_one.new.subs.items c.args.asked.now.last.items c.args.asked.now.count
    c.args.number c.in-Some.query c.requires.of.book_well c.requires.of.origin_well c.requires.differ c.requires.of.record_of c.requires.asking c.requires.within (sym c.in-Some.ensures)
    c.is_last.result c.note.new.self.last.items c.note.new.self.count c.if-is_last.false c.is_last.ensures c.in-Ok.ensures.stands c.in-Ok.ensures.asked c.note.ensures.last c.note.ensures.count

pub returns-in-Ok-clause-more : goal.returns-in-Ok-clause-more
returns-in-Ok-clause-more g c =
    slot_more c.args.book.now (ask_of c.args.board.now) (told_of c.args.board.now) (told_of c.ask_one.new.board) (g.L.Links.seen c.args.links.now) (g.L.Links.seen c.ask_one.new.links) c.args.subs.now.items c.ask_one.new.subs.items c.args.asked.now.last.items c.args.asked.now.count
    c.args.number c.in-Some.query c.requires.of.book_well c.requires.of.origin_well c.requires.differ c.requires.of.record_of c.requires.asking c.requires.within (sym c.in-Some.ensures)
    c.in-Ok.ensures.keeps c.in-Ok.ensures.rejections c.in-Ok.ensures.same c.in-Ok.ensures.asked

pub returns-in-Ok-clause-live : goal.returns-in-Ok-clause-live
returns-in-Ok-clause-live g c =
    slot_live c.args.book.now (ask_of c.args.board.now) (told_of c.args.board.now) (told_of c.ask_one.new.board) (g.L.Links.seen c.args.links.now) (g.L.Links.seen c.ask_one.new.links) c.args.subs.now.items c.ask_one.new.subs.items c.args.asked.now.last.items c.args.asked.now.count
    c.args.number c.in-Some.query c.requires.of.book_well c.requires.of.origin_well c.requires.differ c.requires.of.record_of c.requires.asking c.requires.within (sym c.in-Some.ensures)
    c.in-Ok.ensures.asked

pub returns-in-Err-clause-asking : goal.returns-in-Err-clause-asking
returns-in-Err-clause-asking g c =
    asking_lost c.args.book.now (ask_of c.args.board.now) (told_of c.args.board.now) (told_of c.ask_one.new.board) (g.L.Links.seen c.args.links.now) (g.L.Links.seen c.ask_one.new.links) c.args.subs.now.items c.ask_one.new.subs.items c.args.asked.now.last.items c.args.asked.now.count
    c.requires.asking c.in-Err.ensures.stands c.in-Err.ensures.told c.in-Err.ensures.subs

pub returns-in-Err-clause-more : goal.returns-in-Err-clause-more
returns-in-Err-clause-more g c =
    asks_lost c.args.book.now (ask_of c.args.board.now) (g.L.Links.seen c.args.links.now) (g.L.Links.seen c.ask_one.new.links) c.args.subs.now.items c.ask_one.new.subs.items (told_of c.args.board.now) (told_of c.ask_one.new.board)
    c.in-Err.ensures.keeps c.in-Err.ensures.rejections c.in-Err.ensures.same c.in-Err.ensures.subs c.in-Err.ensures.told

pub returns-in-Ok-clause-this : goal.returns-in-Ok-clause-this
returns-in-Ok-clause-this g c =
    asks_this c.args.book.now (ask_of c.args.board.now) (told_of c.args.board.now) (told_of c.ask_one.new.board) c.args.subs.now.items c.ask_one.new.subs.items c.args.asked.now.last.items c.note.new.self.last.items
    c.args.asked.now.count c.note.new.self.count _ c.args.number c.in-Some.query
    (omega (arith, c.requires.within, c.requires.asking.asked.count)) (sym c.in-Some.ensures)
    (slot_missing c.args.book.now (ask_of c.args.board.now) (told_of c.args.board.now) (told_of c.args.board.now) (g.L.Links.seen c.args.links.now) (g.L.Links.seen c.args.links.now) c.args.subs.now.items c.args.subs.now.items c.args.asked.now.last.items c.args.asked.now.count
    c.args.number c.in-Some.query c.requires.of.book_well c.requires.of.origin_well c.requires.differ c.requires.of.record_of c.requires.asking c.requires.within (sym c.in-Some.ensures) c.is_last.result c.if-is_last.false c.is_last.ensures)
    c.note.ensures.last c.note.ensures.count (ap (λ (k : ℕ). k + 1) c.count.ensures) c.in-Ok.ensures.numbered

pub returns-in-Ok-clause-ordered : goal.returns-in-Ok-clause-ordered
returns-in-Ok-clause-ordered g c = c.in-Ok.ensures.ordered c.args.asked.now.count (ap (λ (k : ℕ). k + 1) c.count.ensures)
