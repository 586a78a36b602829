use Rattle.std.proofs.Common.{length}
use Rattle.ojp_regions.proofs.ReadFacts.{HasRead}
use Rattle.ojp_regions.proofs.reading.read_regions.Given as goal

abbrev pub invariant-lines : goal.invariant-lines
invariant-lines l = HasRead l.bytes l.rest l.regions

abbrev pub decreases-lines : goal.decreases-lines
decreases-lines l = length l.rest
