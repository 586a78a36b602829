use Rattle.std.proofs.Common.{◌≡◌, Bool, ℕ, ◌+◌, ◌*◌, ◌≤◌, List, ◌++◌, length, map, take, ◌∙◌, ap, sym, subst}
use Rattle.std.proofs.lemmas.List.{length-map}
use Rattle.std.specs.List.{All}
use Rattle.std.specs.String.{string_bytes}
use Rattle.ojp_feed_trips.specs.Starts.{IsStart, departures}
use Rattle.ojp_feed_plans.specs.Journeys.{IsOfTrip, Run, run_of, runs_of_starts}
use Rattle.ojp_feed_plans.specs.Labels.{is_key, labels_of, repeats, start_labels, stem}
use Rattle.ojp_feed_plans.specs.Refusals.{IsPast}
use Rattle.ojp_feed_plans.specs.declared.plans.PlannedJourney.{PlannedJourney}
use Rattle.ojp_feed_plans.proofs.AddingFacts.{adds_both, adds_weaker}
use Rattle.ojp_feed_plans.proofs.JourneyFacts.{for_start}
use Rattle.ojp_feed_plans.proofs.LabelFacts.{starts_label_more, stem_all}
use Rattle.ojp_feed_plans.proofs.RunFacts.{passed_up, start_past, starts_all, starts_calls, starts_more}
use Rattle.ojp_feed_plans.proofs.journeys.Journeys.add_trip.Goals as goal

pub loop-start-preserved : goal.loop-start-preserved
loop-start-preserved c =
    let trip = c.args.trip.now in
    let number = c.args.common.number in
    let days = c.args.days.now in
    let starts = c.as_slice-start-items.result.now in
    let all = subst (λ (xs : List ℕ). All (IsStart trip) xs) (sym c.as_slice-start-items.ensures.value) c.in-Ok.ensures.stem in
    let at = c.loop-start.start-index in
    let given = c.as_slice-start-items.result.now in
    let named = c.apart-named.result.number in
    let old = map run_of c.args.self.now.journeys.items in
    let mid = map run_of c.loop-start.self.journeys.items in
    let new = map run_of c.add_days.new.self.journeys.items in
    let here = c.loop-start-test.true in
    record {
      stem = adds_both (IsOfTrip trip number days) c.args.self.now.journeys.items c.loop-start.self.journeys.items c.add_days.new.self.journeys.items c.loop-start.invariant.stem
          (adds_weaker _ (IsOfTrip trip number days) c.loop-start.self.journeys.items c.add_days.new.self.journeys.items (λ j of. for_start trip starts c.loop-start.start-index _ number c.apart-named.result.number days j all c.loop-start-test.true c.apart-named.ensures.number of) c.in_ok-add_days.ensures.stem);
      all = starts_more number named days given at _ old mid new c.apart-named.ensures.number here c.loop-start.invariant.all c.in_ok-add_days.ensures.all;
      labels = starts_label_more (start_labels c.apart-named.result.is_repeated (length days) c.apart-named.result.label) given at _ (labels_of c.args.self.now.journeys.items) (labels_of c.loop-start.self.journeys.items) (labels_of c.add_days.new.self.journeys.items) here
          c.loop-start.invariant.labels c.in_ok-add_days.ensures.labels;
      trips = c.in_ok-add_days.ensures.trips ∙ c.loop-start.invariant.trips;
      calls = starts_calls number at c.args.calls c.args.self.now.calls c.loop-start.self.calls c.add_days.new.self.calls days given here c.loop-start.invariant.calls c.in_ok-add_days.ensures.calls;
      few = c.in_ok-add_days.ensures.few;
    }

pub add_days-requires : goal.add_days-requires
add_days-requires c = c.loop-start.invariant.few

pub returns-in_err-add_days-clause-past : goal.returns-in_err-add_days-clause-past
returns-in_err-add_days-clause-past c =
    let at = c.loop-start.start-index in
    let given = c.as_slice-start-items.result.now in
    let all = departures c.args.trip.now in
    let first : given ≡ take 20001 all = c.as_slice-start-items.ensures.value ∙ c.in-Ok.ensures.all in
    let runs = length (runs_of_starts c.args.common.number c.args.days.now all) in
    passed_up c.from_residual.result c.in_err-add_days.field-0.0 (IsPast (length c.args.self.now.journeys.items + runs) (c.args.self.now.calls + runs * c.args.calls)) c.from_residual.ensures.1
    (start_past c.args.common.number at c.args.calls c.args.self.now.calls c.loop-start.self.calls c.args.days.now given all c.args.self.now.journeys.items c.loop-start.self.journeys.items c.in_err-add_days.field-0.0 first
    c.loop-start-test.true c.loop-start.invariant.all c.loop-start.invariant.calls c.in_err-add_days.ensures.past)

pub returns-clause-all : goal.returns-clause-all
returns-clause-all c =
    let number = c.args.common.number in
    let at = c.loop-start.start-index in
    let old = map run_of c.args.self.now.journeys.items in
    let new = map run_of c.loop-start.self.journeys.items in
    let given = c.as_slice-start-items.result.now in
    let first : given ≡ take 20001 (departures c.args.trip.now) = c.as_slice-start-items.ensures.value ∙ c.in-Ok.ensures.all in
    let few : length new ≤ 20000 = subst (λ (n : ℕ). n ≤ 20000) (sym (length-map c.loop-start.self.journeys.items run_of)) c.loop-start.invariant.few in
    c.loop-start.invariant.all
    ∙ ap (λ (xs : List Run). old ++ xs) (starts_all number at c.args.days.now given (departures c.args.trip.now) old new first c.loop-start-test.false few c.loop-start.invariant.all)

pub returns-clause-labels : goal.returns-clause-labels
returns-clause-labels c =
    let old = labels_of c.args.self.now.journeys.items in
    let new = labels_of c.loop-start.self.journeys.items in
    let trip = c.args.trip.now in
    let given = c.as_slice-start-items.result.now in
    let named = c.apart-named in
    let first : given ≡ take 20001 (departures trip) = c.as_slice-start-items.ensures.value ∙ c.in-Ok.ensures.all in
    let count = length c.args.days.now in
    let taken = is_key c.args.self.now.trips in
    let read = c.as_slice.ensures.value ∙ sym c.as_slice-start-items.ensures.value in
    let is : named.result.label ≡ stem taken (string_bytes trip.id) named.result.is_repeated count c.args.common.label given =
    named.ensures.label ∙ (ap (λ (xs : List ℕ). stem taken (string_bytes trip.id) c.args.common.is_repeated count c.args.common.label xs) read
    ∙ ap (λ (b : Bool). stem taken (string_bytes trip.id) b count c.args.common.label given) (sym named.ensures.repeated)) in
    let few : length new ≤ 20000 = subst (λ (n : ℕ). n ≤ 20000) (sym (length-map c.loop-start.self.journeys.items (λ (j : PlannedJourney). j.label))) c.loop-start.invariant.few in
    stem_all (is_key c.args.self.now.trips) (string_bytes trip.id) named.result.is_repeated (repeats trip) (length c.args.days.now) c.loop-start.start-index c.args.common.label named.result.label given (departures trip) old new
    (named.ensures.repeated ∙ c.requires.repeated) is first c.loop-start-test.false few c.loop-start.invariant.labels

pub returns-clause-calls : goal.returns-clause-calls
returns-clause-calls c =
    let number = c.args.common.number in
    let at = c.loop-start.start-index in
    let old = map run_of c.args.self.now.journeys.items in
    let new = map run_of c.loop-start.self.journeys.items in
    let given = c.as_slice-start-items.result.now in
    let first : given ≡ take 20001 (departures c.args.trip.now) = c.as_slice-start-items.ensures.value ∙ c.in-Ok.ensures.all in
    let few : length new ≤ 20000 = subst (λ (n : ℕ). n ≤ 20000) (sym (length-map c.loop-start.self.journeys.items run_of)) c.loop-start.invariant.few in
    c.loop-start.invariant.calls
    ∙ ap (λ (xs : List Run). c.args.self.now.calls + length xs * c.args.calls)
    (starts_all number at c.args.days.now given (departures c.args.trip.now) old new first c.loop-start-test.false few c.loop-start.invariant.all)

pub returns-clause-few : goal.returns-clause-few
returns-clause-few c = c.loop-start.invariant.few
