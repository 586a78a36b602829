use Rattle.std.proofs.Common.{◌≡◌, drop}
use Rattle.ojp_records.specs.Ends.{least_text}
use Rattle.ojp_labels.specs.Boards.{failed_places}
use Rattle.ojp_labels.proofs.board.Board.failed_pair.Given as goal

abbrev pub invariant-places : goal.invariant-places
invariant-places l = l.least ≡ least_text (failed_places l.self.ask l.self.best (drop l.place l.book.spots) (drop l.place l.self.labels.items))
