use Rattle.std.proofs.Common.{arith}
use Rattle.std.proofs.lemmas.List.Sums.{prefix_len-le-length}
use Rattle.std.specs.Char.{is_ascii_alphabetic}
use Rattle.ojp_zones.specs.Zones.{is_quoted_byte}
use Rattle.ojp_zones.proofs.zone_text.behind_name.Goals as goal

pub behind_quoted-requires : goal.behind_quoted-requires
behind_quoted-requires c = omega (arith, prefix_len-le-length is_quoted_byte c.in-Some.quoted.now, c.quoted_length.ensures)

pub split_at-requires : goal.split_at-requires
split_at-requires c = omega (arith, prefix_len-le-length is_ascii_alphabetic c.args.text.now, c.letters_length-length.ensures)
