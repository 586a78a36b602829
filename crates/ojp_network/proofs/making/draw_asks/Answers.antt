use Rattle.std.proofs.Common.{◌≡◌, ℕ, ◌+◌, ◌*◌, sym, ◌∙◌, ap, arith}
use Rattle.ojp_network.specs.Draws.{state_after}
use Rattle.ojp_network.specs.Networks.{load_ask}
use Rattle.ojp_network.proofs.DrawFacts.{below_none, one_more, state_first, state_sum}
use Rattle.ojp_network.proofs.making.draw_asks.Goals as goal

pub loop-k-init : goal.loop-k-init
loop-k-init c = record { asks = c.new-drawn.ensures ∙ sym (below_none (λ (k : ℕ). load_ask (state_after c.args.draws.now.state (6 * k)))); state = state_first c.args.draws.now.state }

pub loop-k-preserved : goal.loop-k-preserved
loop-k-preserved c =
    let z = c.args.draws.now.state in
    let k = c.loop-k._k in
    let at = c.loop-k.invariant.state in
    let one = c.draw_ask.ensures.ask ∙ ap load_ask at in
    let size : 6 * k + 6 ≡ 6 * (k + 1) = omega arith in
    record {
      asks = one_more (λ (j : ℕ). load_ask (state_after z (6 * j))) k c.loop-k.drawn c.push.new.self _ c.in-Ok.ensures.ok c.loop-k.invariant.asks one;
      state = c.draw_ask.ensures.drawn ∙ (ap (λ (s : ℕ). state_after s 6) at ∙ (state_sum z (6 * k) 6 ∙ ap (state_after z) size));
    }
