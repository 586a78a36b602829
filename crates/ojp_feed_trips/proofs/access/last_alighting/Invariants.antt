use Rattle.std.proofs.Common.{◌≡◌, take}
use Rattle.ojp_feed_trips.specs.Halts.{last_alighting}
use Rattle.ojp_feed_trips.proofs.access.last_alighting.Given as goal

abbrev pub invariant-loop-halt : goal.invariant-loop-halt
invariant-loop-halt l = l.found ≡ last_alighting (take l.halt-index l.halts)
