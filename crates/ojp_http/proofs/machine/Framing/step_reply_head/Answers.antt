use Rattle.std.proofs.Common.{◌∙◌, None, [], ◌∷◌}
use Rattle.httparse.specs.Grammar.{ReadsResponse, ResponseHead}
use Rattle.ojp_http.specs.declared.refusal.Refusal.TheVariants as refusals
use Rattle.ojp_http.specs.declared.machine.Phase.TheVariants.{ReplyHead}
use Rattle.ojp_http.specs.Bodies.{Frames}
use Rattle.ojp_http.specs.Fields.{reply_frame}
use Rattle.ojp_http.proofs.Stepping.{open_at, few_lines, recounted, grown, ready_more, reply_more, reply_found, reply_refused, begins_refused}
use Rattle.ojp_http.proofs.machine.Framing.step_reply_head.Goals as goal

pub keep-requires : goal.keep-requires
keep-requires c = few_lines 66 _ _ (open_at c.args.self.now ReplyHead c.requires.phase c.requires.ready).1

pub response_frame-requires-clause-grown : goal.response_frame-requires-clause-grown
response_frame-requires-clause-grown c =
    let o = open_at c.args.self.now ReplyHead c.requires.phase c.requires.ready in
    grown ReadsResponse (λ (h : ResponseHead). h.fields) 66 c.args.self.now.kept.items _ c.args.byte c.args.self.now.count (c.deref.ensures.value ∙ c.in-Ok.ensures.kept) o.0 o.1

pub response_frame-requires-clause-counted : goal.response_frame-requires-clause-counted
response_frame-requires-clause-counted c =
    recounted c.args.self.now.kept.items _ c.args.byte c.args.self.now.count _ (c.deref.ensures.value ∙ c.in-Ok.ensures.kept) (open_at c.args.self.now ReplyHead c.requires.phase c.requires.ready).1.lines c.in-Ok.ensures.count

pub returns-in-Ok-Some : goal.returns-in-Ok-Some
returns-in-Ok-Some c =
    let found = rw c.in-Ok-Some.field-0-is at c.in-Ok-Some.ensures in
    reply_found c.args.self.now c.follow.new.self c.args.byte c.in-Ok-Some.frame _ found.0 c.requires.phase (c.deref.ensures.value ∙ c.in-Ok.ensures.kept)
    found.1 found.2 c.follow.result c.follow.ensures

pub returns-in-Err : goal.returns-in-Err
returns-in-Err c =
    reply_refused c.args.self.now c.args.byte _ c.in-Err.refusal c.requires.phase (c.deref.ensures.value ∙ c.in-Ok.ensures.kept)
    (begins_refused ReadsResponse (λ (h : ResponseHead). h.fields) 66 refusals.Head refusals.TooLargeHead (λ h. Frames None (reply_frame h)) _ c.in-Err.refusal c.in-Err.ensures)

pub returns-in-Ok-None : goal.returns-in-Ok-None
returns-in-Ok-None c =
    let o = open_at c.args.self.now ReplyHead c.requires.phase c.requires.ready in
    reply_more c.args.self.now _ (c.args.byte ∷ []) c.requires.phase (c.in-Ok.ensures.phase ∙ c.requires.phase) c.in-Ok.ensures.kept
    (ready_more ReadsResponse (λ (h : ResponseHead). h.fields) 66 c.args.self.now.kept.items _ _ c.args.byte c.args.self.now.count _ c.deref.ensures.value c.in-Ok.ensures.kept o.0 o.1 c.in-Ok.ensures.count
    (rw c.in-Ok-None.field-0-is at c.in-Ok-None.ensures))
