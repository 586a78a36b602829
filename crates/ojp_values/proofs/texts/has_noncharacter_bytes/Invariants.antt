use Rattle.std.proofs.Common.{◌≡◌, length}
use Rattle.ojp_values.specs.Texts.{has_noncharacter}
use Rattle.ojp_values.proofs.texts.has_noncharacter_bytes.Given as goal

abbrev pub invariant-bytes : goal.invariant-bytes
invariant-bytes l = has_noncharacter l.text ≡ has_noncharacter l.rest

abbrev pub decreases-bytes : goal.decreases-bytes
decreases-bytes l = length l.rest
