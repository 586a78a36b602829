use Rattle.std.proofs.Common.{arith}
use Rattle.std.proofs.lemmas.List.Sums.{prefix_len-le-length}
use Rattle.ojp_zones.specs.Zones.{is_offset_byte}
use Rattle.ojp_zones.proofs.zone_text.read_behind_name.Goals as goal

pub split_at-requires : goal.split_at-requires
split_at-requires c = omega (arith, prefix_len-le-length is_offset_byte c.args.text.now, c.offset_end.ensures)
