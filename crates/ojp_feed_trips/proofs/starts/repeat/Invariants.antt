use Rattle.std.proofs.Common.{◌≡◌, ◌+◌, ◌*◌, ◌<◌, ◌-◌, ◌++◌, ℕ, length, max, take}
use Rattle.ojp_feed_trips.specs.Starts.{AddsRepeats, repeats, repeats_from}
use Rattle.ojp_feed_trips.proofs.starts.repeat.Given as goal

abbrev pub invariant-departures : goal.invariant-departures
invariant-departures l = record {
  times : AddsRepeats l.row l.fn.starts.items l.starts.items;
  next : l.next < l.row.end → (n : ℕ) × (l.next ≡ l.row.start + n * max l.row.headway 1);
  left : l.starts.items ++ take ((l.most + 1) - length l.starts.items) (repeats_from (l.row.end - l.next) l.next l.row.end (max l.row.headway 1))
      ≡ l.fn.starts.items ++ take ((l.most + 1) - length l.fn.starts.items) (repeats l.row);
}

abbrev pub decreases-departures : goal.decreases-departures
decreases-departures l = l.row.end - l.next
