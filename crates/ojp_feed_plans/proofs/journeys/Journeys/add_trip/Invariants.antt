use Rattle.std.proofs.Common.{◌≡◌, ◌+◌, ◌*◌, ◌≤◌, ◌++◌, length, map, take}
use Rattle.std.specs.List.{flat_map}
use Rattle.ojp_feed_plans.specs.Adding.{Adds}
use Rattle.ojp_feed_plans.specs.Journeys.{IsOfTrip, run_of, runs_of_starts}
use Rattle.ojp_feed_plans.specs.Labels.{labels_of, start_labels}
use Rattle.ojp_feed_plans.proofs.journeys.Journeys.add_trip.Given as goal

abbrev pub invariant-loop-start : goal.invariant-loop-start
invariant-loop-start l = record {
  stem : Adds (IsOfTrip l.trip l.fn.common.number l.days) l.fn.self.journeys.items l.self.journeys.items;
  all : map run_of l.self.journeys.items ≡ map run_of l.fn.self.journeys.items ++ runs_of_starts l.fn.common.number l.days (take l.start-index l.start-items);
  labels : labels_of l.self.journeys.items ≡ labels_of l.fn.self.journeys.items ++ flat_map (start_labels l.named.is_repeated (length l.days) l.named.label) (take l.start-index l.start-items);
  trips : l.self.trips ≡ l.fn.self.trips;
  calls : l.self.calls ≡ l.fn.self.calls + length (runs_of_starts l.fn.common.number l.days (take l.start-index l.start-items)) * l.calls;
  few : length l.self.journeys.items ≤ 20000;
}
