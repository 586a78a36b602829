use Rattle.std.proofs.Common.{◌≡◌, ℕ, map, ap, ◌||◌, ◌∙◌, arith}
use Rattle.std.specs.List.{list_any, range_with_len}
use Rattle.ojp_feed_plans.specs.Labels.{is_key, journey_label, start_labels}
use Rattle.ojp_feed_plans.proofs.LabelFacts.{any_more}
use Rattle.ojp_feed_plans.proofs.journeys.Journeys.is_taken.Goals as goal

pub loop-place-preserved : goal.loop-place-preserved
loop-place-preserved c =
    let common = c.args.common.now in
    let p = is_key c.args.self.now.trips in
    any_more p (journey_label common.is_repeated c.args.count common.label c.args.start) c.loop-place.place c.loop-place.found _ c.loop-place.invariant
    (ap (λ b. c.loop-place.found || b) (c.contains_key-found.ensures ∙ ap p c.label_of-label.ensures))

pub returns : goal.returns
unfolding start_labels
returns c =
    let common = c.args.common.now in
    let f = journey_label common.is_repeated c.args.count common.label c.args.start in
    let place : c.loop-place.place ≡ c.args.count = omega arith in
    c.loop-place.invariant ∙ ap (λ (n : ℕ). list_any (is_key c.args.self.now.trips) (map f (range_with_len 0 n))) place
