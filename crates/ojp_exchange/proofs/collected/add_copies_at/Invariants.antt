use Rattle.std.proofs.Common.{◌≡◌, ◌++◌, take}
use Rattle.std.specs.List.{filter}
use Rattle.ojp_values.specs.Texts.{same}
use Rattle.ojp_values.specs.declared.trips.Point.{Point}
use Rattle.ojp_exchange.proofs.collected.add_copies_at.Given as goal

abbrev pub invariant-points : goal.invariant-points
invariant-points l = l.found.items ≡ l.initial.found.items ++ filter (λ (point : Point). same l.stop point.stop) (take l.point-index l.points)
