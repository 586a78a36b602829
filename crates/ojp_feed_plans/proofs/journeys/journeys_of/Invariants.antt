use Rattle.std.proofs.Common.{◌≡◌, ◌≤◌, length, map, take}
use Rattle.std.specs.List.{All, flat_map}
use Rattle.ojp_feed_plans.specs.Journeys.{IsJourneyOf, calls_from, run_of, runs_from}
use Rattle.ojp_feed_plans.specs.Labels.{labels_of, pattern_labels}
use Rattle.ojp_feed_plans.proofs.journeys.journeys_of.Given as goal

abbrev pub invariant-loop-number : goal.invariant-loop-number
invariant-loop-number l = record {
  stem : All (IsJourneyOf l.feed l.patterns) l.made.journeys.items;
  all : map run_of l.made.journeys.items ≡ runs_from l.feed (map (λ boxes. boxes.items) l.boxes) 0 (take l.number l.patterns);
  labels : labels_of l.made.journeys.items ≡ flat_map (pattern_labels l.feed (map (λ boxes. boxes.items) l.boxes) l.patterns) (take l.number l.patterns);
  trips : l.made.trips ≡ l.initial.made.trips;
  calls : l.made.calls ≡ calls_from l.feed (map (λ boxes. boxes.items) l.boxes) 0 (take l.number l.patterns);
  few : length l.made.journeys.items ≤ 20000;
}
