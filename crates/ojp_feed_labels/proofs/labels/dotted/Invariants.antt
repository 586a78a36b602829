use Rattle.std.proofs.Common.{◌≡◌, ℕ, cond, map, take, eqb}
use Rattle.ojp_feed_labels.proofs.labels.dotted.Given as goal

abbrev pub invariant-loop-byte : goal.invariant-loop-byte
invariant-loop-byte l = l.text.items ≡ map (λ (b : ℕ). cond (eqb b 58) 46 b) (take l.byte-index l.id)
