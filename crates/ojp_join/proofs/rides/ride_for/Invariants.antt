use Rattle.std.proofs.Common.{◌<◌, ℕ}
use Rattle.ojp_join.specs.Rides.{HasNoRide}
use Rattle.ojp_join.proofs.rides.ride_for.Given as goal

abbrev pub invariant-entries : goal.invariant-entries
invariant-entries l = (k : ℕ) → k < l.entry → HasNoRide l.book l.need l.told k
