use Rattle.std.proofs.Common.{◌≡◌, map, take}
use Rattle.ojp_values.specs.declared.trips.Point.{Point}
use Rattle.ojp_exchange.proofs.collected.regions_of.Given as goal

abbrev pub invariant-points : goal.invariant-points
invariant-points l = l.regions.items ≡ map (λ (point : Point). point.region) (take l.point-index l.points)
