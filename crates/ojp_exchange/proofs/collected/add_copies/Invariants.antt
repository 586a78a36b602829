use Rattle.std.proofs.Common.{◌≡◌, ◌++◌, take}
use Rattle.ojp_exchange.proofs.collected.add_copies.Given as goal

abbrev pub invariant-points : goal.invariant-points
invariant-points l = l.all.items ≡ l.initial.all.items ++ take l.point-index l.points
