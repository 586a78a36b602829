use Rattle.std.proofs.Common.{◌∙◌, Some, [], ◌∷◌}
use Rattle.httparse.specs.Grammar.{ReadsRequest, RequestHead}
use Rattle.ojp_http.specs.declared.refusal.Refusal.TheVariants as refusals
use Rattle.ojp_http.specs.declared.machine.Phase.TheVariants.{Head}
use Rattle.ojp_http.specs.Bodies.{Frames}
use Rattle.ojp_http.specs.Fields.{ask_frame}
use Rattle.ojp_http.proofs.MachineFacts.{ask_bounded}
use Rattle.ojp_http.proofs.Stepping.{open_at, few_lines, recounted, grown, ready_more, head_more, head_found, head_refused, begins_refused}
use Rattle.ojp_http.proofs.machine.Framing.step_head.Goals as goal

pub keep-requires : goal.keep-requires
keep-requires c = few_lines 66 _ _ (open_at c.args.self.now Head c.requires.phase c.requires.ready).1

pub request_frame-requires-clause-grown : goal.request_frame-requires-clause-grown
request_frame-requires-clause-grown c =
    let o = open_at c.args.self.now Head c.requires.phase c.requires.ready in
    grown ReadsRequest (λ (h : RequestHead). h.fields) 66 c.args.self.now.kept.items _ c.args.byte c.args.self.now.count (c.deref.ensures.value ∙ c.in-Ok.ensures.kept) o.0 o.1

pub request_frame-requires-clause-counted : goal.request_frame-requires-clause-counted
request_frame-requires-clause-counted c =
    recounted c.args.self.now.kept.items _ c.args.byte c.args.self.now.count _ (c.deref.ensures.value ∙ c.in-Ok.ensures.kept) (open_at c.args.self.now Head c.requires.phase c.requires.ready).1.lines c.in-Ok.ensures.count

pub follow-requires : goal.follow-requires
follow-requires c =
    let found = rw c.in-Ok-Some.field-0-is at c.in-Ok-Some.ensures in
    ask_bounded found.0 c.in-Ok-Some.frame found.2

pub returns-in-Ok-Some : goal.returns-in-Ok-Some
returns-in-Ok-Some c =
    let found = rw c.in-Ok-Some.field-0-is at c.in-Ok-Some.ensures in
    head_found c.args.self.now c.follow.new.self c.args.byte c.in-Ok-Some.frame _ found.0 c.requires.phase (c.deref.ensures.value ∙ c.in-Ok.ensures.kept)
    found.1 found.2 c.follow.result c.follow.ensures

pub returns-in-Err : goal.returns-in-Err
returns-in-Err c =
    head_refused c.args.self.now c.args.byte _ c.in-Err.refusal c.requires.phase (c.deref.ensures.value ∙ c.in-Ok.ensures.kept)
    (begins_refused ReadsRequest (λ (h : RequestHead). h.fields) 66 refusals.Head refusals.TooLargeHead (λ h. Frames (Some 1048576) (ask_frame h)) _ c.in-Err.refusal c.in-Err.ensures)

pub returns-in-Ok-None : goal.returns-in-Ok-None
returns-in-Ok-None c =
    let o = open_at c.args.self.now Head c.requires.phase c.requires.ready in
    head_more c.args.self.now _ (c.args.byte ∷ []) c.requires.phase (c.in-Ok.ensures.phase ∙ c.requires.phase) c.in-Ok.ensures.room c.in-Ok.ensures.kept
    (ready_more ReadsRequest (λ (h : RequestHead). h.fields) 66 c.args.self.now.kept.items _ _ c.args.byte c.args.self.now.count _ c.deref.ensures.value c.in-Ok.ensures.kept o.0 o.1 c.in-Ok.ensures.count
    (rw c.in-Ok-None.field-0-is at c.in-Ok-None.ensures))
