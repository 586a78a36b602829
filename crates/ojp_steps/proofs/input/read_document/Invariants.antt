use Rattle.std.proofs.Common.{◌≡◌, ◌-◌, ◌^◌, length}
use Rattle.ojp_steps.proofs.PieceFacts.{HasFed, count_of}
use Rattle.ojp_steps.proofs.input.read_document.Given as goal

abbrev pub invariant-reading : goal.invariant-reading
invariant-reading g l =
    HasFed l.fn.want (g.I.Source.seen l.fn.input)
    (g.I.Source.seen l.input) l.reader
    × (length l.piece ≡ 8192)

-- what was fed grows, and no document is so long
abbrev pub decreases-reading : goal.decreases-reading
decreases-reading g l = 2 ^ 42 - count_of l.reader
