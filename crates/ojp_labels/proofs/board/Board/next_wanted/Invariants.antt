use Rattle.ojp_labels.specs.Slots.{slots}
use Rattle.ojp_labels.proofs.SlotFacts.{AreLive}
use Rattle.ojp_labels.proofs.board.Board.next_wanted.Given as goal

abbrev pub invariant-slots : goal.invariant-slots
invariant-slots l = AreLive (slots l.book l.self.ask l.self.told.items) l.number l.live
