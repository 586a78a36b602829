use Rattle.std.proofs.Common.{◌≡◌, length, true, map, take}
use Rattle.std.specs.List.{list_all}
use Rattle.ojp_values.specs.Texts.{is_local_byte}
use Rattle.ojp_feed_labels.specs.Labels.{local_byte}
use Rattle.ojp_feed_labels.proofs.hashes.hashed.Given as goal

abbrev pub invariant-loop-byte : goal.invariant-loop-byte
invariant-loop-byte l = record {
  made : l.text.items ≡ map local_byte (take l.byte-index l.byte-items);
  long : length l.text.items ≡ l.byte-index;
  local : list_all is_local_byte l.text.items ≡ true;
}
