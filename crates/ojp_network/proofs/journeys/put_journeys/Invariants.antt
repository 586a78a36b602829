use Rattle.std.proofs.Common.{◌≡◌, ◌++◌, ◌*◌}
use Rattle.std.specs.List.{flat_map}
use Rattle.ojp_network.specs.Draws.{below, state_after}
use Rattle.ojp_network.specs.Regions.{journey, text_of_journey}
use Rattle.ojp_network.proofs.journeys.put_journeys.Given as goal

abbrev pub invariant-loop-k : goal.invariant-loop-k
invariant-loop-k l =
    record {
      text : l.out.items ≡ l.fn.out.items ++ flat_map text_of_journey (below (journey l.fn.draws.state l.region) l.k);
      state : l.draws.state ≡ state_after l.fn.draws.state (16 * l.k);
    }
