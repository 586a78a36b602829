use Rattle.std.proofs.Common.{◌≡◌, ◌+◌, ◌*◌, ◌++◌, ℕ, length, map, ◌∙◌, ap, arith}
use Rattle.std.specs.List.{range_with_len}
use Rattle.ojp_feed_plans.specs.Journeys.{IsMade, IsOfStart, run_of}
use Rattle.ojp_feed_plans.specs.Labels.{journey_label, labels_of, start_labels}
use Rattle.ojp_feed_plans.specs.Refusals.{IsPast}
use Rattle.ojp_feed_plans.proofs.AddingFacts.{adds_both, adds_weaker}
use Rattle.ojp_feed_plans.proofs.JourneyFacts.{on_day}
use Rattle.ojp_feed_plans.proofs.LabelFacts.{days_label_more}
use Rattle.ojp_feed_plans.proofs.RunFacts.{calls_more, day_past, days_all, days_more, passed_up}
use Rattle.ojp_feed_plans.proofs.journeys.Journeys.add_days.Goals as goal

pub loop-place-preserved : goal.loop-place-preserved
loop-place-preserved c =
    let number = c.args.common.number in
    let start = c.args.start in
    let days = c.args.days.now in
    let box = c.index-days-place.result in
    let mid = c.loop-place.self.journeys.items in
    let new = c.add.new.self.journeys.items in
    let runs = map run_of mid in
    record {
      stem = adds_both (IsOfStart number start days) c.args.self.now.journeys.items mid new c.loop-place.invariant.stem
          (adds_weaker (IsMade number start box) (IsOfStart number start days) mid new (λ j made. on_day number start c.loop-place.place days box j c.loop-place-test.true c.index-days-place.is made) c.in_ok-add.ensures.stem);
      all = days_more number start c.loop-place.place days box (map run_of c.args.self.now.journeys.items) runs (map run_of new) c.loop-place-test.true c.index-days-place.is c.loop-place.invariant.all c.in_ok-add.ensures.all;
      labels = days_label_more (journey_label c.args.common.is_repeated (length days) c.args.common.label start) c.loop-place.place (labels_of c.args.self.now.journeys.items) (labels_of mid) (labels_of new) c.label_of-label.result
          c.loop-place.invariant.labels c.label_of-label.ensures c.in_ok-add.ensures.labels;
      trips = c.in_ok-add.ensures.trips ∙ c.loop-place.invariant.trips;
      calls = calls_more c.args.self.now.calls c.loop-place.self.calls c.add.new.self.calls c.args.calls c.loop-place.place c.loop-place.invariant.calls c.in_ok-add.ensures.calls;
      few = c.in_ok-add.ensures.few;
    }

pub returns-in_err-add-clause-past : goal.returns-in_err-add-clause-past
returns-in_err-add-clause-past c =
    let days = c.args.days.now in
    let old = c.args.self.now.journeys.items in
    passed_up c.from_residual.result c.in_err-add.field-0.0 (IsPast (length old + length days) (c.args.self.now.calls + length days * c.args.calls)) c.from_residual.ensures.1
    (day_past c.args.common.number c.args.start c.loop-place.place c.args.calls c.args.self.now.calls c.loop-place.self.calls days old c.loop-place.self.journeys.items c.in_err-add.field-0.0
    c.loop-place-test.true c.loop-place.invariant.all c.loop-place.invariant.calls c.in_err-add.ensures.past)

pub returns-clause-all : goal.returns-clause-all
returns-clause-all c =
    days_all c.args.common.number c.args.start c.loop-place.place c.args.days.now (map run_of c.args.self.now.journeys.items) (map run_of c.loop-place.self.journeys.items) c.loop-place-test.false c.loop-place.invariant.all

pub returns-clause-labels : goal.returns-clause-labels
unfolding start_labels
returns-clause-labels c =
    let place : c.loop-place.place ≡ length c.args.days.now = omega arith in
    c.loop-place.invariant.labels
    ∙ ap (λ (n : ℕ). labels_of c.args.self.now.journeys.items ++ map (journey_label c.args.common.is_repeated (length c.args.days.now) c.args.common.label c.args.start) (range_with_len 0 n)) place

pub returns-clause-calls : goal.returns-clause-calls
returns-clause-calls c =
    let place : c.loop-place.place ≡ length c.args.days.now = omega arith in
    c.loop-place.invariant.calls ∙ ap (λ (n : ℕ). c.args.self.now.calls + n * c.args.calls) place

pub returns-clause-few : goal.returns-clause-few
returns-clause-few c = c.loop-place.invariant.few
