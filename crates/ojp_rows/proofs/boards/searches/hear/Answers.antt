use Rattle.std.proofs.Common.{rules}
use Rattle.ojp_rows.proofs.BoardFacts.{open_from}
use Rattle.ojp_rows.proofs.boards.searches.hear.Goals as goal

pub hear-requires-clause-fresh : goal.hear-requires-clause-fresh
hear-requires-clause-fresh c = open_from c.args.book.now c.args.board.now.ask c.args.board.now.told.items c.args.query.now c.is_wanted.result c.is_wanted.ensures (search rules)
