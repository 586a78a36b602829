use Rattle.std.proofs.Common.{ap, arith, length, length-append}
use Rattle.ojp_values.specs.Texts.{escaped}
use Rattle.ojp_values.proofs.Escapes.{name_bounds}
use Rattle.ojp_values.proofs.FieldTexts.{escaped_short}
use Rattle.ojp_values.proofs.texts.Name.escaped_len.Goals as goal

pub overflow_add-len : goal.overflow_add-len
overflow_add-len c =
    omega (
      arith,
      c.parts.invariant,
      ap length c.in-Some.ensures.front,
      length-append c.in-Some.part.now (escaped c.in-Some.left.now),
      escaped_short c.args.self.now,
      (name_bounds c.args.self.now c.text-rest.ensures.well).1,
    )
