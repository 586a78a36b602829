use Rattle.std.proofs.Common.{◌≡◌, ◌++◌, length}
use Rattle.ojp_values.specs.Texts.{escaped}
use Rattle.ojp_encode.proofs.names.escape.Given as goal

-- what is in the room and what is left to be spelled are the spelling of the name
abbrev pub invariant-parts : goal.invariant-parts
invariant-parts l = escaped l.fn.name ≡ l.room.items ++ escaped l.rest

abbrev pub decreases-parts : goal.decreases-parts
decreases-parts l = length l.rest
