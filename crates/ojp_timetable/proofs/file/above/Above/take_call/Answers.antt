use Rattle.std.proofs.Common.{◌+◌, ◌≤◌, length, sym, subst}
use Rattle.ojp_timetable.specs.declared.file.above.TheConstants.{BYTES}
use Rattle.ojp_timetable.specs.Contents.{Contents}
use Rattle.ojp_timetable.specs.Kept.{call_kept}
use Rattle.ojp_timetable.specs.Lines.{Above, grown}
use Rattle.ojp_timetable.specs.WellContents.{GoesOnFrom, IsWellAbove, Passes}
use Rattle.ojp_timetable.specs.declared.file.lines.Line.TheVariants as lines
use Rattle.ojp_timetable.specs.declared.file.lines.Open.{Open}
use Rattle.ojp_timetable.proofs.WellFacts.{above_keeps}
use Rattle.ojp_timetable.proofs.file.above.Above.take_call.Goals as goal

pub invariant_of-self-2 : goal.invariant_of-self-2
invariant_of-self-2 c =
    let s = c.self.inside in
    let kept_call = c.in-Ok.kept in
    let call = call_kept s.draft.places kept_call in
    let text = c.args.text.now in
    let v = sym c.self.view_is in
    let above : Above = record { lines = s.lines; bytes = s.bytes; left = s.left; contents = s.draft } in
    let kept = above_keeps above text (lines.Call call) c.self.invariant
    (subst (λ (a : Above). 3 ≤ a.lines) v c.requires.below, c.in-Ok.ensures.within.0, c.in-Ok.ensures.within.1)
    (subst (λ (a : Above). GoesOnFrom a.left (call_kept a.contents.places kept_call)) v c.in-Ok.ensures.stands)
    (subst (λ (a : Above). Passes a.contents a.left (lines.Call (call_kept a.contents.places kept_call))) v c.in-Ok.ensures.passes)
    (subst (λ (a : Above). a.bytes + length text ≤ BYTES) v c.in-Ok.ensures.short) in
    subst (λ (contents : Contents). IsWellAbove (record { lines = s.lines + 1; bytes = s.bytes + length text; left = c.left_by-self-inside.result; contents = contents }))
    (sym c.in-Ok-add_call.ensures.value)
    (subst (λ (left : Open). IsWellAbove (record { lines = s.lines + 1; bytes = s.bytes + length text; left = left; contents = grown s.draft (lines.Call call) }))
    (sym c.left_by-self-inside.ensures) kept)
