use Rattle.std.proofs.Common.{◌≡◌, ◌+◌, length, arith}
use Rattle.ojp_labels.proofs.SlotFacts.{slots_wanted}
use Rattle.ojp_labels.proofs.board.Board.slots.Goals as goal

pub returns-clause-wanted : goal.returns-clause-wanted
returns-clause-wanted c book is = slots_wanted book c.args.self.now.ask c.args.self.now.told.items is.book_well is.origin_well
