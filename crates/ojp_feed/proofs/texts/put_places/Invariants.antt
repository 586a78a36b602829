use Rattle.std.proofs.Common.{◌≡◌, ◌++◌, take}
use Rattle.std.specs.List.{flat_map}
use Rattle.ojp_feed.specs.Texts.{text_of_place}
use Rattle.ojp_feed.proofs.texts.put_places.Given as goal

abbrev pub invariant-loop-place : goal.invariant-loop-place
invariant-loop-place l = l.out.items ≡ l.fn.out.items ++ flat_map text_of_place (take l.place-index l.places)
