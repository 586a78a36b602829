use Rattle.std.proofs.Common.{◌≡◌, Ok, Err, ◌∙◌, ap}
use Rattle.ojp_http.specs.declared.fed.ReplyFed.TheVariants as feds
use Rattle.ojp_http.specs.declared.fed.ReplyRefused.TheVariants as refused_as
use Rattle.ojp_load.proofs.ReplyFacts.{not_bad, not_open, whole_body}
use Rattle.ojp_load.proofs.replies.body_of.Goals as goal

pub returns-in-Ok-Whole : goal.returns-in-Ok-Whole
returns-in-Ok-Whole c body h =
    let e : c.in-Ok-Whole.field-0 ≡ feds.Whole c.in-Ok-Whole.field-0-0 = c.in-Ok-Whole.field-0-is in
    whole_body c.new-reply.result c.feed.new.self c.args.bytes.now c.new-body.result c.feed.new.body c.new-reply.ensures.stage c.new-reply.ensures.fed c.new-body.ensures c.feed.result c.feed.ensures
    c.in-Ok-Whole.field-0-0 (c.in-Ok-Whole.is ∙ ap Ok e) body c.one_body.ensures c.no_reply_begins_another.ensures h

pub unreachable-requires : goal.unreachable-requires
unreachable-requires c =
    let e : c.in-Ok-More.field-0 ≡ feds.More = c.in-Ok-More.field-0-is in
    not_open c.new-reply.result c.feed.new.self c.args.bytes.now c.new-body.result c.feed.new.body c.new-reply.ensures.stage c.new-reply.ensures.fed c.new-body.ensures c.feed.result c.feed.ensures
    (c.in-Ok-More.is ∙ ap Ok e) c.requires.0 c.an_open_reply.ensures.none c.requires.1

pub unreachable-requires-in-Err-Bad : goal.unreachable-requires-in-Err-Bad
unreachable-requires-in-Err-Bad c =
    let e : c.in-Err-Bad.field-0 ≡ refused_as.Bad = c.in-Err-Bad.field-0-is in
    not_bad c.new-reply.result c.feed.new.self c.args.bytes.now c.new-body.result c.feed.new.body c.new-reply.ensures.stage c.new-reply.ensures.fed c.new-body.ensures c.feed.result c.feed.ensures
    (c.in-Err-Bad.is ∙ ap Err e) c.requires.0 c.requires.1
