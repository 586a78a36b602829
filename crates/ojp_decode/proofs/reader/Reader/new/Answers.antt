use Rattle.std.proofs.Common.{[], sym, ap}
use Rattle.ojp_decode.specs.Progress.{reading}
use Rattle.ojp_decode.proofs.Readings.{first_waits}
use Rattle.ojp_decode.proofs.reader.Reader.new.Goals as goal

pub invariant_of-result : goal.invariant_of-result
invariant_of-result c = (
  reading c.args.want [],
  (
    [],
    ap (λ w. reading w []) (sym c.new.ensures.want),
    first_waits c.new.result c.new-2.result.items c.new-2.ensures (c.new.ensures.stands []) c.new.ensures.stop c.new.ensures.cut,
  ),
)

pub returns : goal.returns
returns c = (
  [],
  ap (λ w. reading w []) (sym c.new.ensures.want),
  first_waits c.new.result c.new-2.result.items c.new-2.ensures (c.new.ensures.stands []) c.new.ensures.stop c.new.ensures.cut,
)
