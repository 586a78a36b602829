use Rattle.std.proofs.Common.{◌≡◌, sym, ◌∙◌, ap, subst}
use Rattle.ojp_outside.specs.Memory.{MemSinkView, MemSourceView}
use Rattle.ojp_values.specs.Texts.{Text}
use Rattle.ojp_values.specs.declared.replies.Delivery.{Delivery}
use Rattle.ojp_timetable.specs.GatewayAnswers.{GatewayAnswers}
use Rattle.ojp_http.specs.declared.served.Served.TheVariants.{Answered}
use Rattle.ojp_links_mem.specs.Memory.{links_of}
use Rattle.ojp_load.specs.Asking.{IsRequestOf}
use Rattle.ojp_load.specs.Ready.{IsReady}
use Rattle.ojp_load.specs.Replies.{IsResponse}
use Rattle.ojp_load.proofs.LinkFacts.{none_failed, served}
use Rattle.ojp_load.proofs.PostFacts.{answered}
use Rattle.ojp_load.proofs.ResultFacts.{always, if_ok}
use Rattle.ojp_load.proofs.asking.post.Goals as goal

pub delivery_of-requires : goal.delivery_of-requires
delivery_of-requires c =
    let v = links_of c.args.links.now in
    let w = links_of c.serve_paced-serving.new.links in
    let s = c.serve_paced-serving.ensures in
    let calm = none_failed v w c.is_sound.ensures c.is_sound-2.ensures c.requires.0 c.args.book.now c.requires.2 s.keeps s.none_live s.none_rejected in
    let left = ap (λ (i : MemSourceView). i.left) c.new-input.ensures ∙ c.into_items.ensures in
    let status = c.in-Answered-eq200.is ∙ ap Answered (sym c.in-Answered-eq200.field-0-is ∙ c.in-Answered-eq200.field-0-test) in
    let a = answered v w c.requires.0 c.args.book.now c.requires.2 calm c.requires.1 c.new-input.result c.serve_paced-serving.new.input c.new-output.result c.serve_paced-serving.new.output
    c.serve_paced-serving.result.served c.serve_paced-serving.result.told (subst (IsRequestOf c.requires.1) (sym left) c.requires.3) (ap (λ (o : MemSinkView). o.written) c.new-output.ensures)
    c.one_spelling.ensures s status in
    (a.delivery, subst (λ (b : Text). IsResponse b a.delivery) (sym c.written.ensures) a.response_is)

pub returns-in-Answered-eq200-clause-ready : goal.returns-in-Answered-eq200-clause-ready
returns-in-Answered-eq200-clause-ready c tables r =
    let v = links_of c.args.links.now in
    let w = links_of c.serve_paced-serving.new.links in
    let s = c.serve_paced-serving.ensures in
    always c.delivery_of.result (IsReady tables c.args.book.now w) (served v w c.is_sound.ensures c.is_sound-2.ensures tables c.args.book.now r s.keeps s.none_live s.none_rejected)

pub returns-in-Answered-eq200-clause-answers : goal.returns-in-Answered-eq200-clause-answers
returns-in-Answered-eq200-clause-answers c tables ask r q =
    let v = links_of c.args.links.now in
    let w = links_of c.serve_paced-serving.new.links in
    let s = c.serve_paced-serving.ensures in
    let calm = none_failed v w c.is_sound.ensures c.is_sound-2.ensures tables c.args.book.now r s.keeps s.none_live s.none_rejected in
    let left = ap (λ (i : MemSourceView). i.left) c.new-input.ensures ∙ c.into_items.ensures in
    let status = c.in-Answered-eq200.is ∙ ap Answered (sym c.in-Answered-eq200.field-0-is ∙ c.in-Answered-eq200.field-0-test) in
    let a = answered v w tables c.args.book.now r calm ask c.new-input.result c.serve_paced-serving.new.input c.new-output.result c.serve_paced-serving.new.output
    c.serve_paced-serving.result.served c.serve_paced-serving.result.told (subst (IsRequestOf ask) (sym left) q) (ap (λ (o : MemSinkView). o.written) c.new-output.ensures)
    c.one_spelling.ensures s status in
    if_ok (λ (read : Delivery). read ≡ a.delivery) (GatewayAnswers tables ask) c.delivery_of.result (λ read e. subst (GatewayAnswers tables ask) (sym e) a.answers)
    (c.delivery_of.ensures a.delivery (subst (λ (b : Text). IsResponse b a.delivery) (sym c.written.ensures) a.response_is))
