use Rattle.std.proofs.Common.{◌≡◌, map, take}
use Rattle.ojp_feed_plans.specs.Labels.{pattern_id}
use Rattle.ojp_feed_plans.proofs.journeys.ids_of.Given as goal

abbrev pub invariant-loop-pattern : goal.invariant-loop-pattern
invariant-loop-pattern l = map (λ id. id.now) l.ids.items ≡ map (pattern_id l.feed) (take l.pattern-index l.patterns)
