use Rattle.std.proofs.Common.{arith}
use Rattle.ojp_rows.proofs.boards.show_wanted.Goals as goal

pub slot-requires-clause-within : goal.slot-requires-clause-within
slot-requires-clause-within g c = let count = c.slots-number-end.ensures.count c.args.book.now c.requires in omega arith
