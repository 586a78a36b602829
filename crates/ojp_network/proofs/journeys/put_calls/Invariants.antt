use Rattle.std.proofs.Common.{◌≡◌, ◌++◌, ◌+◌, ◌*◌, ◌≤◌}
use Rattle.std.specs.List.{flat_map}
use Rattle.ojp_network.specs.Draws.{below, state_after}
use Rattle.ojp_network.specs.Regions.{departs_at, first_call, middle_call, text_of_call}
use Rattle.ojp_network.proofs.journeys.put_calls.Given as goal

abbrev pub invariant-loop-k : goal.invariant-loop-k
invariant-loop-k l =
    record {
      text : l.out.items
          ≡ (l.fn.out.items ++ text_of_call (first_call l.fn.draws.state l.region)) ++ flat_map text_of_call (below (middle_call l.fn.draws.state l.region) l._k);
      time : l.departs ≡ departs_at l.fn.draws.state l._k;
      small : l.departs ≤ 86_340 + 1320 * l._k;
      state : l.draws.state ≡ state_after l.fn.draws.state (3 * l._k + 2);
    }
