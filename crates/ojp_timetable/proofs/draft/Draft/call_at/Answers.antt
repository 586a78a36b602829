use Rattle.std.proofs.Common.{◌≡◌, ◌∙◌, ap, sym, ℕ, List, length, arith, slice_get, subst}
use Rattle.std.specs.Prelude.{IfSome}
use Rattle.ojp_values.specs.Texts.{Text}
use Rattle.ojp_timetable.specs.Tables.{Call}
use Rattle.ojp_timetable.specs.Contents.{Contents}
use Rattle.ojp_timetable.specs.Kept.{IsAtPlace, end_at}
use Rattle.ojp_timetable.specs.Views.{calls_at}
use Rattle.ojp_timetable.specs.declared.kept.Head.{Head}
use Rattle.ojp_timetable.proofs.CallRowFacts.{calls_are, no_calls, order_at}
use Rattle.ojp_timetable.proofs.StopFacts.{range-at, range-past}
use Rattle.ojp_timetable.proofs.draft.Draft.call_at.Goals as goal

pub returns-in_default-clause-call : goal.returns-in_default-clause-call
returns-in_default-clause-call c =
    sym (ap (λ (contents : Contents). slice_get (calls_at contents.journeys c.args.i) c.args.position) (sym c.self.view_is)
    ∙ ap (λ (cs : List Call). slice_get cs c.args.position) (no_calls c.self.inside.journeys.entries c.self.inside.stops.calls c.args.i c.self.invariant (sym c.head_at.ensures.entry ∙ c.in_default.is)))

pub overflow_sub-end : goal.overflow_sub-end
overflow_sub-end c =
    let entries = c.self.inside.journeys.entries in
    let calls = c.self.inside.stops.calls in
    let e : Text × Head = (c.in-Some.field-0-0, c.in-Some.head) in
    let size : c.end_at-end.result ≡ end_at entries c.args.i (length calls) = c.end_at-end.ensures ∙ ap (λ (n : ℕ). end_at entries c.args.i n) c.calls.ensures in
    let order = order_at entries (length calls) c.args.i e c.self.invariant (sym c.in-Some.ensures.entry) in
    omega (arith, size, order.0)

pub returns-then-position-end-clause-call : goal.returns-then-position-end-clause-call
returns-then-position-end-clause-call c =
    let entries = c.self.inside.journeys.entries in
    let calls = c.self.inside.stops.calls in
    let e : Text × Head = (c.in-Some.field-0-0, c.in-Some.head) in
    let at = sym c.in-Some.ensures.entry in
    let end = end_at entries c.args.i (length calls) in
    let size : c.end_at-end.result ≡ end = c.end_at-end.ensures ∙ ap (λ (n : ℕ). end_at entries c.args.i n) c.calls.ensures in
    let order = order_at entries (length calls) c.args.i e c.self.invariant at in
    let past = range-past calls c.in-Some.head.first_call end c.args.position order.0 order.1 (omega (arith, size, c.if-position-end.true)) in
    sym (ap (λ (contents : Contents). slice_get (calls_at contents.journeys c.args.i) c.args.position) (sym c.self.view_is)
    ∙ (ap (λ (cs : List Call). slice_get cs c.args.position) (calls_are entries calls c.args.i e c.self.invariant at) ∙ past))

pub returns-clause-call : goal.returns-clause-call
returns-clause-call c =
    let entries = c.self.inside.journeys.entries in
    let calls = c.self.inside.stops.calls in
    let e : Text × Head = (c.in-Some.field-0-0, c.in-Some.head) in
    let at = sym c.in-Some.ensures.entry in
    let end = end_at entries c.args.i (length calls) in
    let size : c.end_at-end.result ≡ end = c.end_at-end.ensures ∙ ap (λ (n : ℕ). end_at entries c.args.i n) c.calls.ensures in
    let order = order_at entries (length calls) c.args.i e c.self.invariant at in
    let read = range-at calls c.in-Some.head.first_call end c.args.position order.0 order.1 (omega (arith, size, c.if-position-end.false)) in
    c.call_at.ensures.call ∙ sym (ap (λ (contents : Contents). slice_get (calls_at contents.journeys c.args.i) c.args.position) (sym c.self.view_is)
    ∙ (ap (λ (cs : List Call). slice_get cs c.args.position) (calls_are entries calls c.args.i e c.self.invariant at) ∙ read))

pub returns-clause-place : goal.returns-clause-place
returns-clause-place c = subst (λ (contents : Contents). IfSome c.call_at.result (IsAtPlace contents.places)) c.self.view_is c.call_at.ensures.place
