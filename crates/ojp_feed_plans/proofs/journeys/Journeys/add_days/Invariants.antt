use Rattle.std.proofs.Common.{◌≡◌, ◌+◌, ◌*◌, ◌≤◌, ◌++◌, length, map, take}
use Rattle.std.specs.List.{range_with_len}
use Rattle.ojp_feed_plans.specs.Adding.{Adds}
use Rattle.ojp_feed_plans.specs.Journeys.{IsOfStart, run_of, runs_of_start}
use Rattle.ojp_feed_plans.specs.Labels.{journey_label, labels_of}
use Rattle.ojp_feed_plans.proofs.journeys.Journeys.add_days.Given as goal

abbrev pub invariant-loop-place : goal.invariant-loop-place
invariant-loop-place l = record {
  stem : Adds (IsOfStart l.common.number l.start l.days) l.fn.self.journeys.items l.self.journeys.items;
  all : map run_of l.self.journeys.items ≡ map run_of l.fn.self.journeys.items ++ runs_of_start l.common.number (take l.place l.days) l.start;
  labels : labels_of l.self.journeys.items ≡ labels_of l.fn.self.journeys.items ++ map (journey_label l.common.is_repeated (length l.days) l.common.label l.start) (range_with_len 0 l.place);
  trips : l.self.trips ≡ l.fn.self.trips;
  calls : l.self.calls ≡ l.fn.self.calls + l.place * l.calls;
  few : length l.self.journeys.items ≤ 20000;
}
