use Rattle.std.proofs.Common.{◌≤◌, ◌-◌, ◌≡◌, vec_len, length}
use Rattle.ojp_outside.proofs.Taking.{Takes}
use Rattle.ojp_outside.proofs.reading.read_all.Given as goal

abbrev pub invariant-reading : goal.invariant-reading
invariant-reading g l =
    Takes (g.S.Source.seen l.fn.source).left (g.S.Source.seen l.source).left l.taken.items (g.S.Source.seen l.fn.source).faults (g.S.Source.seen l.source).faults
    × (vec_len l.taken ≤ l.most) × (length l.piece ≡ 8192)

abbrev pub decreases-reading : goal.decreases-reading
decreases-reading g l = l.most - vec_len l.taken
