use Rattle.std.proofs.Common.{◌≡◌, ◌*◌}
use Rattle.ojp_network.specs.Draws.{below, state_after}
use Rattle.ojp_network.specs.Networks.{file_of}
use Rattle.ojp_network.proofs.making.draw_files.Given as goal

abbrev pub invariant-loop-k : goal.invariant-loop-k
invariant-loop-k l = record { files : l.drawn ≡ below (file_of l.fn.draws.state) l.k; state : l.draws.state ≡ state_after l.fn.draws.state (1954 * l.k) }
