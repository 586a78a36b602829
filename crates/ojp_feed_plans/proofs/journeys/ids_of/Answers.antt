use Rattle.std.proofs.Common.{map, ap, ◌∙◌}
use Rattle.std.proofs.lemmas.List.{take_all}
use Rattle.ojp_feed_plans.specs.Labels.{pattern_id, trip_ids}
use Rattle.ojp_feed_plans.proofs.journeys.ids_of.Goals as goal

pub returns : goal.returns
unfolding trip_ids
returns c = c.loop-pattern.invariant ∙ ap (map (pattern_id c.args.feed.now)) (take_all c.loop-pattern.pattern-index c.args.patterns.now c.loop-pattern-test.false)
