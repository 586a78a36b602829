use Rattle.ojp_feed_trips.specs.Halts.{AreFirstHalts}
use Rattle.ojp_feed_trips.proofs.rows.halts_of.Given as goal

abbrev pub invariant-loop-number : goal.invariant-loop-number
invariant-loop-number l = AreFirstHalts l.rows l.places l.halts.items l.number
