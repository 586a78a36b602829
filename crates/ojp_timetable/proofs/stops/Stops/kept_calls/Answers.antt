use Rattle.std.proofs.Common.{◌≡◌, ap, map, sym, subst, List}
use Rattle.ojp_timetable.specs.Kept.{AreAtPlaces, StopsAndCalls, call_kept, place_kept}
use Rattle.ojp_timetable.specs.declared.kept.KeptCall.{KeptCall}
use Rattle.ojp_timetable.proofs.stops.Stops.kept_calls.Goals as goal

pub returns-clause-calls : goal.returns-clause-calls
returns-clause-calls c =
    subst (λ (seen : StopsAndCalls). map (call_kept seen.places) c.as_slice.result.now ≡ seen.calls) c.self.view_is
    (ap (map (call_kept (map place_kept c.self.inside.facts.entries))) c.as_slice.ensures.value)

pub returns-clause-places : goal.returns-clause-places
returns-clause-places c =
    subst (λ (seen : StopsAndCalls). AreAtPlaces seen.places c.as_slice.result.now) c.self.view_is
    (subst (λ (kept : List KeptCall). AreAtPlaces (map place_kept c.self.inside.facts.entries) kept) (sym c.as_slice.ensures.value) c.self.invariant)
