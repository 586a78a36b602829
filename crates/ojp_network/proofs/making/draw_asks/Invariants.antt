use Rattle.std.proofs.Common.{◌≡◌, ℕ, ◌*◌}
use Rattle.ojp_network.specs.Draws.{below, state_after}
use Rattle.ojp_network.specs.Networks.{load_ask}
use Rattle.ojp_network.proofs.making.draw_asks.Given as goal

abbrev pub invariant-loop-k : goal.invariant-loop-k
invariant-loop-k l = record {
  asks : l.drawn ≡ below (λ (k : ℕ). load_ask (state_after l.fn.draws.state (6 * k))) l._k;
  state : l.draws.state ≡ state_after l.fn.draws.state (6 * l._k);
}
