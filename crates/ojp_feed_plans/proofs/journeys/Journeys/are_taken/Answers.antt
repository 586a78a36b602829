use Rattle.std.proofs.Common.{List, ℕ, ap, ◌||◌, ◌∙◌}
use Rattle.std.specs.List.{flat_map, list_any}
use Rattle.std.proofs.lemmas.List.{take_all}
use Rattle.ojp_feed_plans.specs.Labels.{is_key, start_labels}
use Rattle.ojp_feed_plans.proofs.LabelFacts.{any_starts_more}
use Rattle.ojp_feed_plans.proofs.journeys.Journeys.are_taken.Goals as goal

pub loop-start-preserved : goal.loop-start-preserved
loop-start-preserved c =
    let common = c.args.common.now in
    any_starts_more (is_key c.args.self.now.trips) (start_labels common.is_repeated c.args.count common.label) c.args.starts.now c.loop-start.start-index _ c.loop-start.found _ c.loop-start-test.true c.loop-start.invariant
    (ap (λ b. c.loop-start.found || b) c.is_taken-found.ensures)

pub returns : goal.returns
returns c =
    let common = c.args.common.now in
    let f = start_labels common.is_repeated c.args.count common.label in
    c.loop-start.invariant ∙ ap (λ (xs : List ℕ). list_any (is_key c.args.self.now.trips) (flat_map f xs)) (take_all c.loop-start.start-index c.args.starts.now c.loop-start-test.false)
