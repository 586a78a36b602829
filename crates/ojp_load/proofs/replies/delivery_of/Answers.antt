use Rattle.std.proofs.Common.{sym, ◌∙◌, subst}
use Rattle.ojp_grammar.specs.Answering.{SpellsDelivery}
use Rattle.ojp_load.proofs.PostFacts.{reply_is}
use Rattle.ojp_load.proofs.replies.delivery_of.Goals as goal

pub body_of-requires : goal.body_of-requires
body_of-requires c =
    (c.requires.1.text, reply_is c.args.bytes.now c.requires.0 c.requires.1 c.an_answer_is_a_reply.ensures c.documents_are_short.ensures)

pub read_delivery-requires : goal.read_delivery-requires
read_delivery-requires c =
    let r = c.requires.1 in
    let same = c.as_slice.ensures ∙ c.in_ok-body.ensures r.text (reply_is c.args.bytes.now c.requires.0 r c.an_answer_is_a_reply.ensures c.documents_are_short.ensures) in
    (c.requires.0, subst (SpellsDelivery c.requires.0) (sym same) r.spells)

pub returns : goal.returns
returns c delivery r =
    let same = c.as_slice.ensures ∙ c.in_ok-body.ensures r.text (reply_is c.args.bytes.now delivery r c.an_answer_is_a_reply.ensures c.documents_are_short.ensures) in
    c.read_delivery.ensures delivery (subst (SpellsDelivery delivery) (sym same) r.spells)
