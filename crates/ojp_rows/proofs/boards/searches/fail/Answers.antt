use Rattle.std.proofs.Common.{rules}
use Rattle.ojp_rows.proofs.BoardFacts.{open_from}
use Rattle.ojp_rows.proofs.boards.searches.fail.Goals as goal

pub fail-requires-clause-fresh : goal.fail-requires-clause-fresh
fail-requires-clause-fresh c = open_from c.args.book.now c.args.board.now.ask c.args.board.now.told.items c.args.query.now c.is_wanted.result c.is_wanted.ensures (search rules)
