use Rattle.std.proofs.Common.{arith, sym, ◌∙◌}
use Rattle.ojp_labels.proofs.SlotFacts.{slot_wanted, wanted_last}
use Rattle.ojp_labels.proofs.board.Board.is_wanted.Goals as goal

pub returns-then-is_this : goal.returns-then-is_this
returns-then-is_this c =
    slot_wanted c.args.book.now c.args.self.now.ask c.args.self.now.told.items 0 c.args.query.now c.requires.book_well c.requires.origin_well (sym c.slot.ensures ∙ c.if-is_this.ensures)

pub returns-then-is_this-2 : goal.returns-then-is_this-2
returns-then-is_this-2 c =
    slot_wanted c.args.book.now c.args.self.now.ask c.args.self.now.told.items 1 c.args.query.now c.requires.book_well c.requires.origin_well (sym c.slot-2.ensures ∙ c.if-is_this-2.ensures)

pub returns-then-is_this-3 : goal.returns-then-is_this-3
returns-then-is_this-3 c =
    slot_wanted c.args.book.now c.args.self.now.ask c.args.self.now.told.items 2 c.args.query.now c.requires.book_well c.requires.origin_well (sym c.slot-3.ensures ∙ c.if-is_this-3.ensures)

pub returns : goal.returns
returns c =
    wanted_last c.args.book.now c.args.self.now.ask c.args.self.now.told.items c.args.query.now c.slot_of.result c.is_this-4.result c.requires.book_well c.requires.origin_well
    (λ e. c.if-is_this.ensures (c.slot.ensures ∙ e)) (λ e. c.if-is_this-2.ensures (c.slot-2.ensures ∙ e)) (λ e. c.if-is_this-3.ensures (c.slot-3.ensures ∙ e))
    c.slot_of.ensures.some c.slot_of.ensures.all c.is_this-4.ensures
