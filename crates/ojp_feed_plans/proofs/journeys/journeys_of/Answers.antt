use Rattle.std.proofs.Common.{Vec, Global, map, length, List, refl, subst, ◌∙◌}
use Rattle.std.proofs.lemmas.Option.{slice_get_read}
use Rattle.ojp_calendars.specs.declared.day_box.DayBox.{DayBox}
use Rattle.ojp_feed_plans.specs.Journeys.{IsJourneyOf, IsOfPattern, run_of}
use Rattle.ojp_feed_plans.proofs.AddingFacts.{adds_weaker, all_added}
use Rattle.ojp_feed_plans.proofs.JourneyFacts.{of_pattern}
use Rattle.ojp_feed_plans.specs.Labels.{is_key, labels_of}
use Rattle.ojp_feed_plans.proofs.LabelFacts.{all_labelled, keys_kept, label_is, pattern_more}
use Rattle.ojp_feed_plans.proofs.RefusalFacts.{refused_alike, refused_ids, refused_past}
use Rattle.ojp_feed_plans.proofs.RunFacts.{all_runs, passed_up, pattern_past, patterns_calls, patterns_more}
use Rattle.ojp_feed_plans.specs.Refusals.{AreJourneysRefused, AreLabelsRefused}
use Rattle.ojp_feed_plans.specs.declared.plans.PlannedJourney.{PlannedJourney}
use Rattle.ojp_feed_plans.proofs.journeys.journeys_of.Goals as goal

pub loop-number-preserved : goal.loop-number-preserved
loop-number-preserved c =
    let feed = c.args.feed.now in
    let patterns = c.args.patterns.now in
    let all = map (λ (v : Vec DayBox Global). v.items) c.args.boxes.now in
    let number = c.loop-number.number in
    let pattern = c.index-patterns-number.result in
    let mid = c.loop-number.made.journeys.items in
    let new = c.add_pattern.new.self.journeys.items in
    let own = c.as_slice-own.ensures.value ∙ c.in-Ok.ensures.each in
    let keys = keys_kept feed patterns c.as_slice-own.result.now c.in-Ok-labels_seen.trips c.loop-number.made.trips c.loop-number.invariant.trips own c.in-Ok-labels_seen.ensures in
    let pattern_at = slice_get_read patterns (length patterns) number pattern refl c.loop-number-test.true c.index-patterns-number.is in
    record {
      stem = all_added (IsJourneyOf feed patterns) mid new c.loop-number.invariant.stem
          (adds_weaker (IsOfPattern feed all number pattern) (IsJourneyOf feed patterns) mid new (λ j of. of_pattern feed patterns all pattern number j c.requires pattern_at of) c.in_ok-add_pattern.ensures.stem);
      all = patterns_more feed all patterns number pattern (map run_of mid) (map run_of new) c.loop-number-test.true c.index-patterns-number.is c.loop-number.invariant.all c.in_ok-add_pattern.ensures.all;
      labels = pattern_more feed all patterns (is_key c.loop-number.made.trips) number pattern c.label_at-label.result (labels_of mid) (labels_of new) c.loop-number-test.true c.index-patterns-number.is keys
          (label_is feed patterns number pattern c.as_slice-own.result.now c.label_at-label.result own c.loop-number-test.true c.index-patterns-number.is c.label_at-label.ensures)
          c.loop-number.invariant.labels c.in_ok-add_pattern.ensures.labels;
      trips = c.in_ok-add_pattern.ensures.trips ∙ c.loop-number.invariant.trips;
      calls = patterns_calls feed all patterns number pattern c.loop-number.made.calls c.add_pattern.new.self.calls c.loop-number-test.true c.index-patterns-number.is c.loop-number.invariant.calls c.in_ok-add_pattern.ensures.calls;
      few = c.in_ok-add_pattern.ensures.few;
    }

pub add_pattern-requires : goal.add_pattern-requires
add_pattern-requires c = c.loop-number.invariant.few

pub returns-in_err-add_pattern-clause-refused : goal.returns-in_err-add_pattern-clause-refused
returns-in_err-add_pattern-clause-refused c =
    let feed = c.args.feed.now in
    let patterns = c.args.patterns.now in
    let all = map (λ (v : Vec DayBox Global). v.items) c.args.boxes.now in
    let refused = c.in_err-add_pattern.field-0.0 in
    passed_up c.from_residual.result refused (AreJourneysRefused feed all patterns) c.from_residual.ensures.1
    (refused_past feed all patterns refused (pattern_past feed all patterns c.loop-number.number c.index-patterns-number.result c.loop-number.made.journeys.items c.loop-number.made.calls refused
    c.loop-number-test.true c.index-patterns-number.is c.loop-number.invariant.all c.loop-number.invariant.calls c.in_err-add_pattern.ensures.past))

pub returns-in-Err-clause-refused : goal.returns-in-Err-clause-refused
returns-in-Err-clause-refused c = refused_ids c.args.feed.now (map (λ (v : Vec DayBox Global). v.items) c.args.boxes.now) c.args.patterns.now c.in-Err.refused c.in-Err.ensures.refused

pub returns-in-Ok-labels_apart-clause-stem : goal.returns-in-Ok-labels_apart-clause-stem
returns-in-Ok-labels_apart-clause-stem c = c.loop-number.invariant.stem

pub returns-in-Ok-labels_apart-clause-all : goal.returns-in-Ok-labels_apart-clause-all
returns-in-Ok-labels_apart-clause-all c = all_runs c.args.feed.now (map (λ (v : Vec DayBox Global). v.items) c.args.boxes.now) c.args.patterns.now c.loop-number.number c.loop-number.made.journeys.items c.loop-number-test.false c.loop-number.invariant.all

pub returns-in-Ok-labels_apart-clause-labels : goal.returns-in-Ok-labels_apart-clause-labels
returns-in-Ok-labels_apart-clause-labels c =
    all_labelled c.args.feed.now (map (λ (v : Vec DayBox Global). v.items) c.args.boxes.now) c.args.patterns.now c.loop-number.number c.loop-number.made.journeys.items c.loop-number-test.false c.loop-number.invariant.labels

pub returns-clause-refused : goal.returns-clause-refused
returns-clause-refused c =
    let feed = c.args.feed.now in
    let patterns = c.args.patterns.now in
    let boxes = map (λ (v : Vec DayBox Global). v.items) c.args.boxes.now in
    let journeys = c.loop-number.made.journeys.items in
    let all = all_runs feed boxes patterns c.loop-number.number journeys c.loop-number-test.false c.loop-number.invariant.all in
    let labelled = all_labelled feed boxes patterns c.loop-number.number journeys c.loop-number-test.false c.loop-number.invariant.labels in
    let why = subst (λ (js : List PlannedJourney). AreLabelsRefused patterns js c.in-Err-labels_apart.refused) c.as_slice.ensures.value c.in-Err-labels_apart.ensures in
    refused_alike feed boxes patterns journeys c.in-Err-labels_apart.refused all labelled why
