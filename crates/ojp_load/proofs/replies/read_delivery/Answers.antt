use Rattle.std.proofs.Common.{◌≡◌, Ok, Err, [], ◌∙◌, ap, subst}
use Rattle.std.specs.Prelude.{take}
use Rattle.ojp_values.specs.declared.documents.Doc.TheVariants as docs
use Rattle.ojp_grammar.specs.declared.refusals.Want.TheVariants as wants
use Rattle.ojp_decode.specs.declared.fed.Fed.TheVariants as reads
use Rattle.ojp_decode.specs.declared.fed.ReadRefused.TheVariants.{At}
use Rattle.ojp_decode.specs.Feeding.{IsRead}
use Rattle.ojp_decode.specs.Progress.{reading, whole}
use Rattle.ojp_load.proofs.ReplyFacts.{not_refused, one_delivery, same_delivery, whole_text}
use Rattle.ojp_load.proofs.replies.read_delivery.Goals as goal

pub unreachable-requires-in-Err-At : goal.unreachable-requires-in-Err-At
unreachable-requires-in-Err-At c =
    let e : c.in-Err-At.field-0 ≡ At c.in-Err-At.field-0-0 = c.in-Err-At.field-0-is in
    not_refused c.requires.0 c.args.text.now c.requires.1 c.feed.new.self c.feed.result c.in-Err-At.field-0-0 (c.feed.ensures (reading wants.Delivery []) c.new-reader.ensures) (c.in-Err-At.is ∙ ap Err e)

pub returns : goal.returns
returns c delivery s =
    let text = c.args.text.now in
    let used = c.in-Ok-Whole.field-0-0 in
    let e : c.in-Ok-Whole.field-0 ≡ reads.Whole used = c.in-Ok-Whole.field-0-is in
    let f : c.in-Ok-Delivery.field-0 ≡ docs.Delivery c.in-Ok-Delivery.delivery = c.in-Ok-Delivery.field-0-is in
    let read = whole_text delivery text s c.feed.new.self c.feed.result used (c.feed.ensures (reading wants.Delivery []) c.new-reader.ensures) (c.in-Ok-Whole.is ∙ ap Ok e) in
    let given = subst (IsRead wants.Delivery (take used text)) (c.in-Ok-Delivery.is ∙ ap Ok f) (c.finish.ensures (whole wants.Delivery (take used text)) read) in
    same_delivery c.in-Ok-Delivery.delivery delivery (one_delivery delivery text s (docs.Delivery c.in-Ok-Delivery.delivery) used c.one_spelling.ensures given)
