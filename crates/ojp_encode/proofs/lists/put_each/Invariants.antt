use Rattle.std.proofs.Common.{take, Ok, All}
use Rattle.std.specs.List.{flat_map}
use Rattle.ojp_encode.specs.Writing.{Writes}
use Rattle.ojp_encode.proofs.lists.put_each.Given as goal

abbrev pub invariant-loop-item : goal.invariant-loop-item
invariant-loop-item g l = record {
  spelled : Writes (g.S.Sink.seen l.fn.sink).written (g.S.Sink.seen l.sink).written (g.S.Sink.seen l.fn.sink).faults (g.S.Sink.seen l.sink).faults
      (flat_map g.T.Spelled.bytes (take l.item-index l.fn.items)) (Ok tt);
  fits : All g.T.Spelled.fits (take l.item-index l.fn.items);
}
