use Rattle.std.proofs.Common.{◌∙◌, ap, sym, ℕ, length}
use Rattle.std.specs.Prelude.{Option, Some, option_map, slice_get}
use Rattle.ojp_values.specs.Texts.{Text}
use Rattle.ojp_timetable.specs.Contents.{Contents}
use Rattle.ojp_timetable.specs.Views.{calls_at, view_of}
use Rattle.ojp_timetable.specs.declared.kept.Head.{Head}
use Rattle.ojp_timetable.specs.declared.kept.JourneyView.{JourneyView}
use Rattle.ojp_timetable.proofs.CallRowFacts.{no_journey, view_is}
use Rattle.ojp_timetable.proofs.draft.Draft.journey_at.Goals as goal

pub returns-in_default : goal.returns-in_default
returns-in_default c =
    sym (ap (option_map view_of) (ap (λ (contents : Contents). slice_get contents.journeys c.args.i) (sym c.self.view_is)
    ∙ no_journey c.self.inside.journeys.entries c.self.inside.stops.calls c.args.i c.self.invariant (sym c.head_at.ensures.entry ∙ c.in_default.is)))

pub returns : goal.returns
returns c =
    let entries = c.self.inside.journeys.entries in
    let calls = c.self.inside.stops.calls in
    let e : Text × Head = c.in-Some.entry in
    let at = sym c.in-Some.ensures.entry in
    let view : ℕ → Option JourneyView = λ n. Some (record { id = c.in-Some.entry.0; line = c.in-Some.entry.1.line; service = c.in-Some.entry.1.service; calls = n }) in
    ap Some c.view_of.ensures ∙ (ap view (c.calls_at-calls.ensures ∙ ap (λ (contents : Contents). length (calls_at contents.journeys c.args.i)) (sym c.self.view_is))
    ∙ (view_is entries calls c.args.i e c.self.invariant at ∙ ap (λ (contents : Contents). option_map view_of (slice_get contents.journeys c.args.i)) c.self.view_is))
