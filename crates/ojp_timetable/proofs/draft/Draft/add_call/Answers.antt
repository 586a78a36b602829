use Rattle.std.proofs.Common.{◌≡◌, sym, ◌∙◌, ap, ◌∷◌, [], subst, length, ℕ, ◌+◌, true≢false, length-append}
use Rattle.ojp_timetable.specs.Contents.{Contents, with_call}
use Rattle.ojp_timetable.specs.Kept.{AreInRow, call_kept, journeys_of}
use Rattle.ojp_timetable.proofs.CallRowFacts.{with_call-row, in_row-push}
use Rattle.ojp_timetable.proofs.draft.Draft.add_call.Goals as goal

pub invariant_of-self-2 : goal.invariant_of-self-2
invariant_of-self-2 c =
    let calls = c.self.inside.stops.calls in
    let size : length calls + 1 ≡ length c.push_call.new.self.calls = sym (ap length c.in-Ok.ensures.added ∙ length-append calls (call_kept c.self.inside.stops.places c.args.kept.now ∷ [])) in
    subst (λ (n : ℕ). AreInRow c.self.inside.journeys.entries n) size (in_row-push c.self.inside.journeys.entries (length calls) (λ e. true≢false (sym (c.is_empty.ensures.1 (ap length e)) ∙ c.if-is_empty.false)) c.self.invariant)

pub returns-clause-value : goal.returns-clause-value
returns-clause-value c =
    let v = c.self.view_is in
    let entries = c.self.inside.journeys.entries in
    let kept = c.args.kept.now in
    let call = call_kept c.self.inside.stops.places kept in
    let places : c.push_call.new.self.places ≡ c.args.self.now.places = c.push_call.ensures.places ∙ ap (λ (contents : Contents). contents.places) v in
    let journeys : journeys_of entries c.push_call.new.self.calls ≡ with_call c.args.self.now.journeys (call_kept c.args.self.now.places kept) =
    ap (journeys_of entries) c.in-Ok.ensures.added
    ∙ (sym (with_call-row entries c.self.inside.stops.calls call c.self.invariant) ∙ ap (λ (contents : Contents). with_call contents.journeys (call_kept contents.places kept)) v) in
    λ i. record {
      region = (v i).region;
      zone = (v i).zone;
      places = places i;
      points = (v i).points;
      services = (v i).services;
      journeys = journeys i;
    }
