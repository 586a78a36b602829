use Rattle.std.proofs.Common.{reverse}
use Rattle.ojp_scan.specs.Walks.{IsWalking}
use Rattle.ojp_scan.proofs.scans.Scan.legs_back.Given as goal

abbrev pub invariant-back : goal.invariant-back
invariant-back l = IsWalking l.self l.table l.at l.before (reverse l.legs.items) l.fn.stop l.end

abbrev pub decreases-back : goal.decreases-back
decreases-back l = l.before
