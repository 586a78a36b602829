use Rattle.std.proofs.Common.{◌≡◌, ◌≤◌, ◌++◌, drop, length, reverse}
use Rattle.ojp_join.proofs.chains.add_legs.Given as goal

abbrev pub invariant-legs : goal.invariant-legs
invariant-legs l = (l.left ≤ length l.legs) × (reverse l.back.items ≡ drop l.left l.legs ++ reverse l.initial.back.items)

abbrev pub decreases-legs : goal.decreases-legs
decreases-legs l = l.left
