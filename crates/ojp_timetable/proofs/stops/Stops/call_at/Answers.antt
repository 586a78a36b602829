use Rattle.std.proofs.Common.{◌≡◌, ◌<◌, ◌∙◌, ap, sym, subst, arith, map, length, List, ℕ, Some, None, slice_get}
use Rattle.std.specs.Prelude.{option_map}
use Rattle.std.proofs.lemmas.Option.{slice_get-map, slice_get_past}
use Rattle.ojp_values.specs.Texts.{Text}
use Rattle.ojp_timetable.specs.Tables.{Call}
use Rattle.ojp_timetable.specs.Kept.{HasNumber, StopsAndCalls, call_kept, place_kept, stop_of}
use Rattle.ojp_timetable.specs.declared.kept.KeptCall.{KeptCall}
use Rattle.ojp_timetable.proofs.StopFacts.{at-read, no_kept, number-low, read-kept}
use Rattle.ojp_timetable.proofs.stops.Stops.call_at.Goals as goal

pub found-requires : goal.found-requires
found-requires c =
    let s = c.self.inside in
    let places = map place_kept s.facts.entries in
    let kept = c.in-Some.kept.now in
    let found = c.in-Some.ensures.lookup.3 in
    let at : slice_get s.kept.items c.args.i ≡ Some kept = read-kept c.deref.result.now s.kept.items c.args.i kept c.deref.ensures.value found.0 (found.1 no_kept) in
    let low : kept.place < length places = number-low places (stop_of places kept.place) kept.place (at-read places s.kept.items c.args.i kept c.self.invariant at) in
    omega (arith, low, ap (λ (seen : StopsAndCalls). length seen.places) c.self.view_is)

pub returns-in-None-clause-call : goal.returns-in-None-clause-call
returns-in-None-clause-call c =
    let s = c.self.inside in
    let past : slice_get s.kept.items c.args.i ≡ None = slice_get_past s.kept.items c.args.i (omega (arith, c.in-None.ensures.lookup.3, ap (λ (kept : List KeptCall). length kept) c.deref.ensures.value)) in
    sym (ap (λ (seen : StopsAndCalls). slice_get seen.calls c.args.i) (sym c.self.view_is)
    ∙ (slice_get-map (call_kept (map place_kept s.facts.entries)) s.kept.items c.args.i ∙ ap (option_map (call_kept (map place_kept s.facts.entries))) past))

pub returns-in-Some-clause-call : goal.returns-in-Some-clause-call
returns-in-Some-clause-call c =
    let s = c.self.inside in
    let kept = c.in-Some.kept.now in
    let found = c.in-Some.ensures.lookup.3 in
    let at : slice_get s.kept.items c.args.i ≡ Some kept = read-kept c.deref.result.now s.kept.items c.args.i kept c.deref.ensures.value found.0 (found.1 no_kept) in
    ap (λ (call : Call). Some call) (c.found.ensures.call ∙ ap (λ (seen : StopsAndCalls). call_kept seen.places kept) (sym c.self.view_is))
    ∙ sym (ap (λ (seen : StopsAndCalls). slice_get seen.calls c.args.i) (sym c.self.view_is)
    ∙ (slice_get-map (call_kept (map place_kept s.facts.entries)) s.kept.items c.args.i ∙ ap (option_map (call_kept (map place_kept s.facts.entries))) at))

pub returns-in-Some-clause-place : goal.returns-in-Some-clause-place
returns-in-Some-clause-place c =
    let s = c.self.inside in
    let places = map place_kept s.facts.entries in
    let now = c.args.self.now.places in
    let kept = c.in-Some.kept.now in
    let found = c.in-Some.ensures.lookup.3 in
    let at : slice_get s.kept.items c.args.i ≡ Some kept = read-kept c.deref.result.now s.kept.items c.args.i kept c.deref.ensures.value found.0 (found.1 no_kept) in
    let inside : HasNumber places (stop_of places kept.place) kept.place = at-read places s.kept.items c.args.i kept c.self.invariant at in
    let seen : HasNumber now (stop_of now kept.place) kept.place = subst (λ (seen : StopsAndCalls). HasNumber seen.places (stop_of seen.places kept.place) kept.place) c.self.view_is inside in
    let stop : c.found.result.call.stop ≡ stop_of now kept.place = ap (λ (call : Call). call.stop) c.found.ensures.call in
    subst (λ (n : ℕ). HasNumber now c.found.result.call.stop n) (sym c.found.ensures.place) (subst (λ (t : Text). HasNumber now t kept.place) (sym stop) seen)
