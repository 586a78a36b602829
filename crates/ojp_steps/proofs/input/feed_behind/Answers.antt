use Rattle.std.proofs.lemmas.List.{take_rest}
use Rattle.ojp_steps.proofs.PieceFacts.{call_rest, call_rest_err}
use Rattle.ojp_steps.proofs.input.feed_behind.Goals as goal

pub returns-in-Ok : goal.returns-in-Ok
returns-in-Ok c want fed has ends =
    call_rest c.args.piece.now _ c.args.reader.now c.feed.new.self c.args.used _ (take_rest c.args.piece.now c.args.used) c.in-Ok.ensures want fed has ends

pub returns-in-Err : goal.returns-in-Err
returns-in-Err c want fed has ends =
    call_rest_err c.args.piece.now _ c.args.reader.now c.feed.new.self c.args.used c.in-Err.refused (take_rest c.args.piece.now c.args.used) c.in-Err.ensures want fed has
