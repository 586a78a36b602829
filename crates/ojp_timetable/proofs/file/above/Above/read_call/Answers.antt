use Rattle.std.proofs.Common.{◌≡◌, ◌≤◌, Bool, true, false, not, refl, sym, ◌∙◌, ap, subst, true≢false}
use Rattle.std.specs.Prelude.{Some, None, Ok}
use Rattle.ojp_timetable.specs.Checks.{is_long, lacks_stop, read_line}
use Rattle.ojp_timetable.specs.Kept.{IsKeptByNumber, call_kept}
use Rattle.ojp_timetable.specs.Lines.{Above}
use Rattle.ojp_timetable.specs.Said.{call_of, entry_said}
use Rattle.ojp_timetable.specs.Tables.{Call}
use Rattle.ojp_timetable.specs.WellContents.{GoesOnFrom, Passes}
use Rattle.ojp_timetable.specs.declared.file.lines.Line.TheVariants as lines
use Rattle.ojp_timetable.proofs.CallFacts.{call_fails, failed_kept, kept_is, kept_number, line_checked, looked_number}
use Rattle.ojp_timetable.proofs.file.above.Above.read_call.Goals as goal

pub returns-in_err-said-clause-value : goal.returns-in_err-said-clause-value
returns-in_err-said-clause-value c =
    let s = c.self.inside in
    let text = c.args.text.now in
    let above : Above = record { lines = s.lines; bytes = s.bytes; left = s.left; contents = s.draft } in
    let fails = call_fails above text _ (subst (λ (a : Above). 3 ≤ a.lines) (sym c.self.view_is) c.requires.below)
    (λ region. c.in_err-said.ensures.value region ∙ ap (entry_said region s.left) (sym c.requires.call)) in
    failed_kept c.args.self.now.contents.places c.from_residual.result _ c.from_residual.ensures.1 ∙ (fails ∙ ap (λ (a : Above). read_line a text) c.self.view_is)

pub returns-in-None-clause-value : goal.returns-in-None-clause-value
returns-in-None-clause-value c =
    let s = c.self.inside in
    let text = c.args.text.now in
    let above : Above = record { lines = s.lines; bytes = s.bytes; left = s.left; contents = s.draft } in
    let said = c.in_ok-said.said in
    let kept = c.kept.result in
    let is : call_kept s.draft.places kept ≡ call_of said =
    kept_is s.draft.places (call_of said) kept (looked_number s.draft.places said kept c.in_ok-said.ensures.place c.kept.ensures.place) c.kept.ensures.times.0 c.kept.ensures.times.1 in
    ap (λ (a : Above). Ok (lines.Call (call_kept a.contents.places kept))) (sym c.self.view_is)
    ∙ (ap (λ (call : Call). Ok (lines.Call call)) is
    ∙ (line_checked above text (lines.Call (call_of said)) c.is_long-is_long.result None (subst (λ (a : Above). 3 ≤ a.lines) (sym c.self.view_is) c.requires.below)
    (λ region. c.in_ok-said.ensures.value region ∙ ap (entry_said region s.left) (sym c.requires.call))
    (subst (λ (a : Above). c.is_long-is_long.result ≡ is_long a text) (sym c.self.view_is) c.is_long-is_long.ensures.value) c.in-None.ensures.value
    ∙ ap (λ (a : Above). read_line a text) c.self.view_is))

pub returns-in-Some-clause-value : goal.returns-in-Some-clause-value
returns-in-Some-clause-value c =
    let s = c.self.inside in
    let text = c.args.text.now in
    let above : Above = record { lines = s.lines; bytes = s.bytes; left = s.left; contents = s.draft } in
    line_checked above text (lines.Call (call_of c.in_ok-said.said)) c.is_long-is_long.result (Some c.in-Some.reason) (subst (λ (a : Above). 3 ≤ a.lines) (sym c.self.view_is) c.requires.below)
    (λ region. c.in_ok-said.ensures.value region ∙ ap (entry_said region s.left) (sym c.requires.call))
    (subst (λ (a : Above). c.is_long-is_long.result ≡ is_long a text) (sym c.self.view_is) c.is_long-is_long.ensures.value) c.in-Some.ensures.value
    ∙ ap (λ (a : Above). read_line a text) c.self.view_is

is_there : (b : Bool) → not b ≡ false → b ≡ true
is_there true e = refl
is_there false e = absurd (true≢false e)

pub kept-requires : goal.kept-requires
unfolding lacks_stop
kept-requires c = c.in_ok-said.ensures.known ∙ is_there _ (c.in-None.ensures.passes refl).stop

pub returns-in-None-clause-stands : goal.returns-in-None-clause-stands
returns-in-None-clause-stands c =
    let s = c.self.inside in
    let said = c.in_ok-said.said in
    let kept = c.kept.result in
    let is : call_kept s.draft.places kept ≡ call_of said =
    kept_is s.draft.places (call_of said) kept (looked_number s.draft.places said kept c.in_ok-said.ensures.place c.kept.ensures.place) c.kept.ensures.times.0 c.kept.ensures.times.1 in
    subst (λ (a : Above). GoesOnFrom a.left (call_kept a.contents.places kept)) c.self.view_is
    (subst (λ (call : Call). GoesOnFrom s.left call) (sym is) c.in_ok-said.ensures.stands)

pub returns-in-None-clause-passes : goal.returns-in-None-clause-passes
returns-in-None-clause-passes c =
    let s = c.self.inside in
    let said = c.in_ok-said.said in
    let kept = c.kept.result in
    let is : call_kept s.draft.places kept ≡ call_of said =
    kept_is s.draft.places (call_of said) kept (looked_number s.draft.places said kept c.in_ok-said.ensures.place c.kept.ensures.place) c.kept.ensures.times.0 c.kept.ensures.times.1 in
    subst (λ (a : Above). Passes a.contents a.left (lines.Call (call_kept a.contents.places kept))) c.self.view_is
    (subst (λ (call : Call). Passes s.draft s.left (lines.Call call)) (sym is) (c.in-None.ensures.passes refl))

pub returns-in-None-clause-place : goal.returns-in-None-clause-place
returns-in-None-clause-place c =
    let s = c.self.inside in
    let said = c.in_ok-said.said in
    let kept = c.kept.result in
    subst (λ (a : Above). IsKeptByNumber a.contents.places kept) c.self.view_is
    (kept_number s.draft.places said.stop.now kept (looked_number s.draft.places said kept c.in_ok-said.ensures.place c.kept.ensures.place))
