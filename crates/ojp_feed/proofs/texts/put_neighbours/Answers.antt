use Rattle.ojp_feed.specs.Texts.{text_of_neighbour}
use Rattle.ojp_feed.proofs.TextFacts.{grows_more}
use Rattle.ojp_feed.proofs.texts.put_neighbours.Goals as goal

pub loop-neighbour-preserved : goal.loop-neighbour-preserved
loop-neighbour-preserved c = grows_more text_of_neighbour c.args.neighbours.now c.loop-neighbour.neighbour-index c.neighbour-item.result c.args.out.now.items c.loop-neighbour.out.items c.put_neighbour.new.out.items c.loop-neighbour-test.true c.neighbour-item.is c.loop-neighbour.invariant c.in_ok-put_neighbour.ensures
