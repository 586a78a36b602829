use Rattle.std.proofs.Common.{sym, ◌∙◌}
use Rattle.ojp_http.proofs.ReplyFacts.{reads_whole, reads_more, reads_over}
use Rattle.ojp_http.proofs.reply.read_on.Goals as goal

pub returns-then-is_whole-clause-reads : goal.returns-then-is_whole-clause-reads
returns-then-is_whole-clause-reads c bytes got taken =
    reads_whole c.args.framing c.feed-fed.new.self bytes got c.args.piece.now c.into_items-items.result.items c.feed-fed.new.body.items c.args.body.now c.from_items.result
    (sym c.replace.ensures.value ∙ sym c.into_items-items.ensures) c.from_items.ensures c.in-Ok.used c.in-Ok.ensures (sym c.is_whole.ensures ∙ c.if-is_whole.true) taken

pub returns-else-is_whole-clause-reads : goal.returns-else-is_whole-clause-reads
returns-else-is_whole-clause-reads c bytes got taken =
    reads_more c.args.framing c.feed-fed.new.self bytes got c.args.piece.now c.into_items-items.result.items c.feed-fed.new.body.items c.args.body.now c.from_items.result
    (sym c.replace.ensures.value ∙ sym c.into_items-items.ensures) c.from_items.ensures c.in-Ok.used c.in-Ok.ensures (sym c.is_whole.ensures ∙ c.if-is_whole.false) taken

pub returns-in-Err-clause-reads : goal.returns-in-Err-clause-reads
returns-in-Err-clause-reads c bytes got taken =
    reads_over c.args.framing c.feed-fed.new.self bytes got c.args.piece.now c.into_items-items.result.items c.feed-fed.new.body.items c.args.body.now c.from_items.result
    (sym c.replace.ensures.value ∙ sym c.into_items-items.ensures) c.from_items.ensures c.in-Err.stop c.refusal_of-refused.result c.refusal_of-refused.ensures c.in-Err.ensures taken
