use Rattle.std.proofs.Common.{◌≡◌, ◌*◌, ◌≤◌, length, take}
use Rattle.std.specs.List.{flat_map}
use Rattle.ojp_encode.proofs.lengths.length_each.Given as goal

abbrev pub invariant-loop-item : goal.invariant-loop-item
invariant-loop-item g l = record {
  counted : l.bytes ≡ length (flat_map g.T.Spelled.bytes (take l.item-index l.fn.items));
  bounded : l.bytes ≤ g.T.Spelled.most * l.item-index;
}
