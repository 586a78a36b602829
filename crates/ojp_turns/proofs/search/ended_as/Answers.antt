use Rattle.std.proofs.Common.{sym}
use Rattle.ojp_labels.specs.Boards.{ask_of, told_of}
use Rattle.ojp_turns.proofs.EndFacts.{best_is_some}
use Rattle.ojp_turns.proofs.search.ended_as.Goals as goal

pub joined-requires-clause-best : goal.joined-requires-clause-best
joined-requires-clause-best c = best_is_some c.args.book.now (ask_of c.args.board.now) (told_of c.args.board.now) (sym c.in-None.ensures)
