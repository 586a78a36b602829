use Rattle.ojp_labels.proofs.BoardFacts.{unchanged_or}
use Rattle.ojp_labels.proofs.board.Board.fail.Goals as goal

pub returns-clause-of : goal.returns-clause-of
returns-clause-of c = unchanged_or c.args.book.now c.args.self.now c.tell.new.self c.tell.result c.tell.ensures.of c.tell.ensures.err c.requires.of
