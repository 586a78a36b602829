use Rattle.std.proofs.Common.{length, ap, arith, length-append}
use Rattle.ojp_values.specs.Texts.{escaped}
use Rattle.ojp_encode.proofs.Short.{name_is_short}
use Rattle.ojp_encode.proofs.names.escape.Goals as goal

-- what is in the room and the next part are a front of the spelling, which is short
pub push_all-requires : goal.push_all-requires
push_all-requires c =
    omega (
      arith,
      name_is_short c.args.name.now c.text-rest.ensures.well,
      ap length c.parts.invariant,
      length-append c.parts.room.items (escaped c.parts.rest.now),
      ap length c.in-Some.ensures.front,
      length-append c.in-Some.part.now (escaped c.in-Some.left.now),
    )
