use Rattle.std.proofs.Common.{◌≡◌, ◌+◌, take}
use Rattle.std.specs.List.{All, flat_map}
use Rattle.ojp_feed_trips.specs.Starts.{IsRepeatOf, repeats}
use Rattle.ojp_feed_trips.proofs.starts.starts_of.Given as goal

abbrev pub invariant-loop-frequency : goal.invariant-loop-frequency
invariant-loop-frequency l = record {
  stem : All (IsRepeatOf l.trip.frequencies.items) l.starts.items;
  all : l.starts.items ≡ take (l.most + 1) (flat_map repeats (take l.frequency-index l.trip.frequencies.items));
}
