use Rattle.std.proofs.Common.{◌≡◌, map, take}
use Rattle.ojp_exchange.specs.declared.region_points.RegionPoints.{RegionPoints}
use Rattle.ojp_exchange.proofs.collected.all_codes.Given as goal

abbrev pub invariant-lists : goal.invariant-lists
invariant-lists l = l.codes.items ≡ map (λ (list : RegionPoints). list.code) (take l.list-index l.lists)
