use Rattle.ojp_records.specs.Wanted.{wanted}
use Rattle.ojp_labels.proofs.SlotFacts.{settled_by}
use Rattle.ojp_labels.proofs.board.Board.is_settled.Goals as goal

pub returns : goal.returns
returns c = settled_by (wanted c.args.book.now c.args.self.now.ask c.args.self.now.told.items) c.next_wanted.result c.is_none.result c.is_none.ensures c.next_wanted.ensures
