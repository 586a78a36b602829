use Rattle.std.proofs.Common.{◌≡◌}
use Rattle.std.specs.Prelude.{Ok, Err}
use Rattle.ojp_http.specs.declared.fed.ReplyFed.TheVariants as feds
use Rattle.ojp_http.specs.declared.fed.ReplyRefused.TheVariants as refusals
use Rattle.ojp_subrequests.proofs.PieceFacts.{fed_as, goes_past, is_whole}
use Rattle.ojp_subrequests.proofs.pieces.frame.Goals as goal

pub returns-then-used-piece : goal.returns-then-used-piece
returns-then-used-piece c bytes got stage fed more body reply =
    let used = c.in-Ok-Whole.used in
    let e : c.feed.result ≡ Ok (feds.Whole used) = cc in
    let on = fed_as c.args.reply.now c.feed.new.self bytes got c.args.piece.now c.args.body.now c.feed.new.body c.feed.result (Ok (feds.Whole used)) c.requires e stage (c.feed.ensures bytes got fed) in
    goes_past c.no_reply_begins_another.ensures c.feed.new.self bytes got c.args.piece.now c.feed.new.body used on.0 on.1 c.if-used-piece.true more body reply

pub returns-else-used-piece : goal.returns-else-used-piece
returns-else-used-piece c bytes got stage fed =
    let used = c.in-Ok-Whole.used in
    let e : c.feed.result ≡ Ok (feds.Whole used) = cc in
    let on = fed_as c.args.reply.now c.feed.new.self bytes got c.args.piece.now c.args.body.now c.feed.new.body c.feed.result (Ok (feds.Whole used)) c.requires e stage (c.feed.ensures bytes got fed) in
    is_whole c.feed.new.self bytes got c.args.piece.now c.feed.new.body used on.0 on.1 c.if-used-piece.false

pub returns-in-Err-Bad : goal.returns-in-Err-Bad
returns-in-Err-Bad c bytes got stage fed more body reply =
    let e : c.feed.result ≡ Err refusals.Bad = cc in
    let on = fed_as c.args.reply.now c.feed.new.self bytes got c.args.piece.now c.args.body.now c.feed.new.body c.feed.result (Err refusals.Bad) c.requires e stage (c.feed.ensures bytes got fed) in
    (on.decided (λ i. refusals.Bad)).none more body reply
