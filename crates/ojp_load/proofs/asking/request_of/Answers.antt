use Rattle.std.proofs.Common.{◌≡◌, ◌++◌, ◌∙◌, ap}
use Rattle.ojp_outside.specs.Memory.{MemSinkView}
use Rattle.ojp_values.specs.Texts.{Text}
use Rattle.ojp_values.specs.declared.asks.Ask.TheVariants as asks
use Rattle.ojp_values.specs.declared.documents.Doc.TheVariants as docs
use Rattle.ojp_grammar.specs.Documents.{items}
use Rattle.ojp_grammar.specs.Items.{spell}
use Rattle.ojp_http.specs.Responses.{request_bytes}
use Rattle.ojp_load.specs.Asking.{IsRequestOf}
use Rattle.ojp_load.proofs.PostFacts.{host, request_is}
use Rattle.ojp_load.proofs.ResultFacts.{if_ok}
use Rattle.ojp_load.proofs.asking.request_of.Goals as goal

pub returns-in-Ok : goal.returns-in-Ok
returns-in-Ok c =
    let ask = asks.Trip c.args.ask.now in
    let empty = ap (λ (s : MemSinkView). s.written) c.new-text.ensures in
    let spells = c.written.ensures ∙ (c.in-Ok.ensures.ok ∙ ap (λ (t : Text). t ++ spell (items (docs.Ask ask))) empty) in
    if_ok (λ bytes. bytes ≡ request_bytes host c.written.result.now) (IsRequestOf ask) c.request.result
    (λ bytes is. request_is ask c.written.result.now bytes c.requests_are_short.ensures c.a_request_gives_its_body.ensures c.in-Ok.ensures.well spells is) c.request.ensures
