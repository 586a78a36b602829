use Rattle.std.proofs.Common.{◌≡◌, ◌++◌, take}
use Rattle.std.specs.List.{flat_map}
use Rattle.ojp_feed.specs.Texts.{text_of_neighbour}
use Rattle.ojp_feed.proofs.texts.put_neighbours.Given as goal

abbrev pub invariant-loop-neighbour : goal.invariant-loop-neighbour
invariant-loop-neighbour l = l.out.items ≡ l.fn.out.items ++ flat_map text_of_neighbour (take l.neighbour-index l.neighbours)
