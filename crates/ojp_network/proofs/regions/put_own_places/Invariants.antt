use Rattle.std.proofs.Common.{◌≡◌, ◌++◌}
use Rattle.std.specs.Prelude.{codes}
use Rattle.std.specs.List.{flat_map}
use Rattle.ojp_network.specs.Draws.{below, state_after}
use Rattle.ojp_network.specs.Regions.{own_place, text_of_place}
use Rattle.ojp_network.proofs.regions.put_own_places.Given as goal

abbrev pub invariant-loop-k : goal.invariant-loop-k
invariant-loop-k l =
    record {
      text : l.out.items ≡ l.fn.out.items ++ flat_map (text_of_place (codes "stop")) (below (own_place l.fn.draws.state l.region) l.k);
      state : l.draws.state ≡ state_after l.fn.draws.state l.k;
    }
