use Rattle.std.proofs.Common.{◌≡◌, ◌∙◌, ap, sym, ℕ, length, arith}
use Rattle.ojp_values.specs.Texts.{Text}
use Rattle.ojp_timetable.specs.Contents.{Contents}
use Rattle.ojp_timetable.specs.Kept.{end_at}
use Rattle.ojp_timetable.specs.Views.{calls_at}
use Rattle.ojp_timetable.specs.declared.kept.Head.{Head}
use Rattle.ojp_timetable.proofs.CallRowFacts.{calls_are, no_calls, order_at}
use Rattle.ojp_timetable.proofs.StopFacts.{length-range}
use Rattle.ojp_timetable.proofs.draft.Draft.calls_at.Goals as goal

pub returns-in_default : goal.returns-in_default
returns-in_default c =
    sym (ap (λ (contents : Contents). length (calls_at contents.journeys c.args.i)) (sym c.self.view_is)
    ∙ ap length (no_calls c.self.inside.journeys.entries c.self.inside.stops.calls c.args.i c.self.invariant (sym c.head_at.ensures.entry ∙ c.in_default.is)))

pub returns : goal.returns
returns c =
    let entries = c.self.inside.journeys.entries in
    let calls = c.self.inside.stops.calls in
    let e : Text × Head = (c.in-Some.field-0-0, c.in-Some.head) in
    let at = sym c.in-Some.ensures.entry in
    let size : c.end_at.result ≡ end_at entries c.args.i (length calls) = c.end_at.ensures ∙ ap (λ (n : ℕ). end_at entries c.args.i n) c.calls.ensures in
    let order = order_at entries (length calls) c.args.i e c.self.invariant at in
    let count = ap length (calls_are entries calls c.args.i e c.self.invariant at) ∙ length-range calls c.in-Some.head.first_call (end_at entries c.args.i (length calls)) order.0 order.1 in
    let told = ap (λ (contents : Contents). length (calls_at contents.journeys c.args.i)) c.self.view_is in
    omega (arith, size, count, told)

pub overflow_sub-result : goal.overflow_sub-result
overflow_sub-result c =
    let entries = c.self.inside.journeys.entries in
    let calls = c.self.inside.stops.calls in
    let e : Text × Head = (c.in-Some.field-0-0, c.in-Some.head) in
    let size : c.end_at.result ≡ end_at entries c.args.i (length calls) = c.end_at.ensures ∙ ap (λ (n : ℕ). end_at entries c.args.i n) c.calls.ensures in
    let order = order_at entries (length calls) c.args.i e c.self.invariant (sym c.in-Some.ensures.entry) in
    omega (arith, size, order.0)
