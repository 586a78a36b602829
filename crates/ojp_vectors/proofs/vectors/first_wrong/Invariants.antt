use Rattle.std.proofs.Common.{map}
use Rattle.ojp_vectors.specs.Cases.{HoldBelow, stated}
use Rattle.ojp_vectors.proofs.vectors.first_wrong.Given as goal

abbrev pub invariant-loop-number : goal.invariant-loop-number
invariant-loop-number l = HoldBelow (map stated l.cases) l.number
