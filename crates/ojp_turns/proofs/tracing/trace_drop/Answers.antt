use Rattle.ojp_labels.specs.Boards.{ask_of, told_of}
use Rattle.ojp_turns.proofs.CancelFacts.{wanted_is, unwanted_is}
use Rattle.ojp_turns.proofs.TraceFacts.{drop_wanted, drop_unwanted}
use Rattle.ojp_turns.proofs.tracing.trace_drop.Goals as goal

pub returns-then-is_wanted-clause-ok : goal.returns-then-is_wanted-clause-ok
returns-then-is_wanted-clause-ok c =
    drop_wanted c.args.book.now (ask_of c.args.board.now) (told_of c.args.board.now) c.args.turn c.args.trace.now c.args.kept.now
    (wanted_is c.args.book.now (ask_of c.args.board.now) (told_of c.args.board.now) c.args.kept.now c.is_wanted.result c.if-is_wanted.true c.is_wanted.ensures)

pub returns-clause-ok : goal.returns-clause-ok
returns-clause-ok c =
    drop_unwanted c.args.book.now (ask_of c.args.board.now) (told_of c.args.board.now) c.add.result c.args.turn c.args.trace.now c.add.new.self c.args.kept.now
    (unwanted_is c.args.book.now (ask_of c.args.board.now) (told_of c.args.board.now) c.args.kept.now c.is_wanted.result c.if-is_wanted.false c.is_wanted.ensures) c.add.ensures.ok
