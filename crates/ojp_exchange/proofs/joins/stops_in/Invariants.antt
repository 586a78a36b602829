use Rattle.std.proofs.Common.{◌≡◌, ◌+◌, ◌≤◌, drop, length, map}
use Rattle.ojp_exchange.specs.Kept.{spot_of, stops_of}
use Rattle.ojp_exchange.proofs.joins.stops_in.Given as goal

abbrev pub invariant-points : goal.invariant-points
invariant-points l =
    record {
      counted : l.count + length (stops_of (map spot_of (drop l.i l.points))) ≡ length (stops_of (map spot_of l.points));
      few : l.count ≤ l.i;
    }
