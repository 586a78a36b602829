use Rattle.ojp_steps.proofs.PieceFacts.{call_more, call_used, call_used_whole, call_whole, call_err}
use Rattle.ojp_steps.proofs.input.feed_all.Goals as goal

pub feed_behind-requires : goal.feed_behind-requires
feed_behind-requires c =
    call_used c.args.piece.now c.args.reader.now c.feed.new.self c.in-Ok-Whole.used (rw c.in-Ok-Whole.field-0-is at c.in-Ok-Whole.ensures) c.requires.0 c.requires.1 c.requires.2

pub returns-in-Ok-More : goal.returns-in-Ok-More
returns-in-Ok-More c =
    call_more c.args.piece.now c.args.reader.now c.feed.new.self (rw c.in-Ok-More.field-0-is at c.in-Ok-More.ensures)

pub returns-in-Ok-Whole : goal.returns-in-Ok-Whole
returns-in-Ok-Whole c want fed taken =
    c.feed_behind.ensures want fed
    (call_whole c.args.piece.now c.args.reader.now c.feed.new.self c.in-Ok-Whole.used (rw c.in-Ok-Whole.field-0-is at c.in-Ok-Whole.ensures) want fed taken)
    (call_used_whole c.args.piece.now c.args.reader.now c.feed.new.self c.in-Ok-Whole.used (rw c.in-Ok-Whole.field-0-is at c.in-Ok-Whole.ensures) want fed taken)

pub returns-in-Err : goal.returns-in-Err
returns-in-Err c want fed taken =
    call_err c.args.piece.now c.args.reader.now c.feed.new.self c.in-Err.refused c.in-Err.ensures want fed taken
