use Rattle.std.proofs.Common.{◌≡◌, take}
use Rattle.std.specs.List.{flat_map}
use Rattle.ojp_exchange.specs.declared.region_points.RegionPoints.{RegionPoints}
use Rattle.ojp_exchange.proofs.collected.all_points.Given as goal

abbrev pub invariant-lists : goal.invariant-lists
invariant-lists l = l.all.items ≡ flat_map (λ (list : RegionPoints). list.points) (take l.list-index l.lists)
