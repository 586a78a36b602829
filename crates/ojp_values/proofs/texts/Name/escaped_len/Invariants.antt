use Rattle.std.proofs.Common.{◌≡◌, ◌+◌, length}
use Rattle.ojp_values.specs.Texts.{escaped}
use Rattle.ojp_values.proofs.texts.Name.escaped_len.Given as goal

abbrev pub invariant-parts : goal.invariant-parts
invariant-parts l = l.len + length (escaped l.rest) ≡ length (escaped l.self)

abbrev pub decreases-parts : goal.decreases-parts
decreases-parts l = length l.rest
