use Rattle.std.proofs.Common.{◌+◌, ◌≤◌, length, sym, subst}
use Rattle.ojp_timetable.specs.declared.file.above.TheConstants.{BYTES}
use Rattle.ojp_timetable.specs.Contents.{Contents}
use Rattle.ojp_timetable.specs.Lines.{Above, IsWellLine, grown}
use Rattle.ojp_timetable.specs.WellContents.{IsWellAbove, MayStand, Passes}
use Rattle.ojp_timetable.specs.declared.file.lines.Open.{Open}
use Rattle.ojp_timetable.proofs.WellFacts.{above_keeps}
use Rattle.ojp_timetable.proofs.file.above.Above.take_line.Goals as goal

pub invariant_of-self-2 : goal.invariant_of-self-2
invariant_of-self-2 c =
    let s = c.self.inside in
    let line = c.in-Ok.line in
    let text = c.args.text.now in
    let v = sym c.self.view_is in
    let above : Above = record { lines = s.lines; bytes = s.bytes; left = s.left; contents = s.draft } in
    let kept = above_keeps above text line c.self.invariant
    (subst (λ (a : Above). IsWellLine a.lines line) v c.in-Ok.ensures.well)
    (subst (λ (a : Above). MayStand a.left line) v c.in-Ok.ensures.stands)
    (subst (λ (a : Above). Passes a.contents a.left line) v c.in-Ok.ensures.passes)
    (subst (λ (a : Above). a.bytes + length text ≤ BYTES) v c.in-Ok.ensures.short) in
    subst (λ (contents : Contents). IsWellAbove (record { lines = s.lines + 1; bytes = s.bytes + length text; left = c.left_open-self-inside.result; contents = contents }))
    (sym c.in-Ok-add.ensures.value)
    (subst (λ (left : Open). IsWellAbove (record { lines = s.lines + 1; bytes = s.bytes + length text; left = left; contents = grown s.draft line }))
    (sym c.left_open-self-inside.ensures) kept)
