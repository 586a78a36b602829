use Rattle.std.proofs.Common.{ap, sym, ◌∙◌}
use Rattle.std.specs.Option.{option_copied}
use Rattle.ojp_links_mem.proofs.ServedFacts.{if_ok_map, reply_served, reply_stated}
use Rattle.ojp_links_mem.proofs.server.reply_of.Goals as goal

pub returns-in-Some-clause-reply : goal.returns-in-Some-clause-reply
returns-in-Some-clause-reply c =
    let is = sym c.stated.ensures ∙ ap option_copied c.in-Some.is in
    if_ok_map c.copied.result _ _ (λ copy e. λ table at. reply_stated (option_copied c.args.said) table c.args.request.now c.in-Some.bytes.now copy.items is e) c.copied.ensures

pub returns-in-None-clause-reply : goal.returns-in-None-clause-reply
returns-in-None-clause-reply c =
    let none = sym c.stated.ensures ∙ ap option_copied c.in-None.is in
    if_ok_map c.answer_of.result _ _ (λ reply serves. λ table at. reply_served (option_copied c.args.said) table c.args.request.now reply.items none (serves table at)) c.answer_of.ensures.serves
