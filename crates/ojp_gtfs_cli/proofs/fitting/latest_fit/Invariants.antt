use Rattle.std.proofs.Common.{◌≡◌}
use Rattle.ojp_gtfs_cli.proofs.fitting.latest_fit.Given as goal

abbrev pub invariant-days : goal.invariant-days
invariant-days l = (l.feed.stops ≡ l.fn.feed.stops) × (l.feed.trips ≡ l.fn.feed.trips)
