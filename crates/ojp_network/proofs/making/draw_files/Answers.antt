use Rattle.std.proofs.Common.{◌≡◌, ℕ, ◌+◌, ◌*◌, sym, ◌∙◌, ap, arith}
use Rattle.ojp_network.specs.Draws.{state_after}
use Rattle.ojp_network.specs.Regions.{file}
use Rattle.ojp_network.specs.Networks.{file_of}
use Rattle.ojp_network.proofs.DrawFacts.{below_none, one_more, state_first, state_sum}
use Rattle.ojp_network.proofs.making.draw_files.Goals as goal

pub loop-k-init : goal.loop-k-init
loop-k-init c = record { files = c.new-drawn.ensures ∙ sym (below_none (file_of c.args.draws.now.state)); state = state_first c.args.draws.now.state }

pub loop-k-preserved : goal.loop-k-preserved
loop-k-preserved c =
    let z = c.args.draws.now.state in
    let k = c.loop-k.k in
    let at = c.loop-k.invariant.state in
    let one = c.in_ok-file.ensures.text ∙ ap (λ (s : ℕ). file s (k + 1)) at in
    let size : 1954 * k + 1954 ≡ 1954 * (k + 1) = omega arith in
    record {
      files = one_more (file_of z) k c.loop-k.drawn c.push.new.self _ c.in-Ok.ensures.ok c.loop-k.invariant.files one;
      state = c.in_ok-file.ensures.drawn ∙ (ap (λ (s : ℕ). state_after s 1954) at ∙ (state_sum z (1954 * k) 1954 ∙ ap (state_after z) size));
    }
