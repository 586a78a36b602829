use Rattle.std.proofs.Common.{◌≡◌, map}
use Rattle.std.specs.List.{list_any, range_with_len}
use Rattle.ojp_feed_plans.specs.Labels.{is_key, journey_label}
use Rattle.ojp_feed_plans.proofs.journeys.Journeys.is_taken.Given as goal

abbrev pub invariant-loop-place : goal.invariant-loop-place
invariant-loop-place l = l.found ≡ list_any (is_key l.self.trips) (map (journey_label l.common.is_repeated l.count l.common.label l.start) (range_with_len 0 l.place))
