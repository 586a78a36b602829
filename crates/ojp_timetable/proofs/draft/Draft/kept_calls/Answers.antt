use Rattle.std.proofs.Common.{◌≡◌, ◌∙◌, ◌≤◌, ap, sym, ℕ, map, length, slice_range, subst, arith, rules}
use Rattle.ojp_timetable.specs.Contents.{Contents}
use Rattle.ojp_timetable.specs.Kept.{AreAtPlaces, call_kept, end_at}
use Rattle.ojp_timetable.specs.Views.{calls_at}
use Rattle.ojp_timetable.proofs.CallRowFacts.{calls_are, no_calls, order_at}
use Rattle.ojp_timetable.proofs.KeptFacts.{at_range, count_kept, first_read, none_read, range_kept}
use Rattle.ojp_timetable.proofs.draft.Draft.kept_calls.Goals as goal

pub returns-in_default-clause-calls : goal.returns-in_default-clause-calls
returns-in_default-clause-calls c =
    let none = none_read _ (sym c.first_call.ensures.first ∙ c.in_default.is) in
    sym (ap (λ (contents : Contents). calls_at contents.journeys c.args.i) (sym c.self.view_is) ∙ no_calls c.self.inside.journeys.entries c.self.inside.stops.calls c.args.i c.self.invariant none)

-- the calls of the journey begin where they end at the latest, and end within those that are kept
pub offset_bounds-kept_calls-first : goal.offset_bounds-kept_calls-first
offset_bounds-kept_calls-first c =
    let entries = c.self.inside.journeys.entries in
    let stops = c.self.inside.stops in
    let read = first_read _ c.in-Some.first c.in-Some.ensures.first in
    let order = order_at entries (length stops.calls) c.args.i read.0 c.self.invariant read.1 in
    let count = count_kept stops.places c.kept_calls.result.now stops.calls c.kept_calls.ensures.calls in
    omega (arith, read.2, order.0, order.1, count, c.kept_calls.type_inv)

pub slice_bounds-result-count : goal.slice_bounds-result-count
slice_bounds-result-count c =
    let entries = c.self.inside.journeys.entries in
    let calls = c.self.inside.stops.calls in
    let read = first_read _ c.in-Some.first c.in-Some.ensures.first in
    let order = order_at entries (length calls) c.args.i read.0 c.self.invariant read.1 in
    let all = c.end_at-end.ensures ∙ ap (λ (n : ℕ). end_at entries c.args.i n) c.calls.ensures in
    omega (arith, read.2, order.0, all)

pub slice_bounds-result-start : goal.slice_bounds-result-start
slice_bounds-result-start c =
    let entries = c.self.inside.journeys.entries in
    let calls = c.self.inside.stops.calls in
    let read = first_read _ c.in-Some.first c.in-Some.ensures.first in
    let order = order_at entries (length calls) c.args.i read.0 c.self.invariant read.1 in
    let all = c.end_at-end.ensures ∙ ap (λ (n : ℕ). end_at entries c.args.i n) c.calls.ensures in
    let below : c.in-Some.first ≤ c.end_at-end.result = omega (arith, read.2, order.0, all) in
    search (rules, below)

pub slice_bounds-result-end-2 : goal.slice_bounds-result-end-2
slice_bounds-result-end-2 c =
    let entries = c.self.inside.journeys.entries in
    let stops = c.self.inside.stops in
    let read = first_read _ c.in-Some.first c.in-Some.ensures.first in
    let order = order_at entries (length stops.calls) c.args.i read.0 c.self.invariant read.1 in
    let all = c.end_at-end.ensures ∙ ap (λ (n : ℕ). end_at entries c.args.i n) c.calls.ensures in
    let count = count_kept stops.places c.kept_calls.result.now stops.calls c.kept_calls.ensures.calls in
    let within : c.end_at-end.result ≤ length c.kept_calls.result.now = omega (arith, order.1, all, count) in
    search (rules, within)

pub returns-clause-calls : goal.returns-clause-calls
returns-clause-calls c =
    let entries = c.self.inside.journeys.entries in
    let stops = c.self.inside.stops in
    let read = first_read _ c.in-Some.first c.in-Some.ensures.first in
    let all = c.end_at-end.ensures ∙ ap (λ (n : ℕ). end_at entries c.args.i n) c.calls.ensures in
    subst (λ (contents : Contents). map (call_kept contents.places) (slice_range c.kept_calls.result.now c.in-Some.first c.end_at-end.result) ≡ calls_at contents.journeys c.args.i) c.self.view_is
    (range_kept stops.places c.kept_calls.result.now stops.calls c.in-Some.first c.end_at-end.result c.kept_calls.ensures.calls
    ∙ ((λ i. slice_range stops.calls (sym read.2 i) (all i)) ∙ sym (calls_are entries stops.calls c.args.i read.0 c.self.invariant read.1)))

pub returns-clause-places : goal.returns-clause-places
returns-clause-places c =
    subst (λ (contents : Contents). AreAtPlaces contents.places (slice_range c.kept_calls.result.now c.in-Some.first c.end_at-end.result)) c.self.view_is
    (at_range c.self.inside.stops.places c.kept_calls.result.now c.in-Some.first c.end_at-end.result c.kept_calls.ensures.places)
