use Rattle.std.proofs.Common.{◌≡◌, take}
use Rattle.std.specs.List.{flat_map, list_any}
use Rattle.ojp_feed_plans.specs.Labels.{is_key, start_labels}
use Rattle.ojp_feed_plans.proofs.journeys.Journeys.are_taken.Given as goal

abbrev pub invariant-loop-start : goal.invariant-loop-start
invariant-loop-start l = l.found ≡ list_any (is_key l.self.trips) (flat_map (start_labels l.common.is_repeated l.count l.common.label) (take l.start-index l.starts))
