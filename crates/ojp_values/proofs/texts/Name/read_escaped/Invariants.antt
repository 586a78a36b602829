use Rattle.std.proofs.Common.{◌≡◌, ◌++◌, length}
use Rattle.ojp_values.specs.Texts.{escaped}
use Rattle.ojp_values.proofs.texts.Name.read_escaped.Given as goal

abbrev pub invariant-bytes : goal.invariant-bytes
invariant-bytes l = escaped l.name.items ++ l.rest ≡ l.text

abbrev pub decreases-bytes : goal.decreases-bytes
decreases-bytes l = length l.rest
