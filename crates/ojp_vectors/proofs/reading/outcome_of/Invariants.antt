use Rattle.std.proofs.Common.{◌≡◌, ℕ, List, ◌++◌, length}
use Rattle.ojp_decode.specs.Progress.{reading}
use Rattle.ojp_decode.specs.Standing.{HasRead}
use Rattle.ojp_vectors.proofs.reading.outcome_of.Given as goal

-- the reader has read what stands before the bytes that are left
abbrev pub invariant-pieces : goal.invariant-pieces
invariant-pieces l = (before : List ℕ) × (l.fn.bytes ≡ before ++ l.left) × HasRead l.reader (reading l.fn.want before)

abbrev pub decreases-pieces : goal.decreases-pieces
decreases-pieces l = length l.left
