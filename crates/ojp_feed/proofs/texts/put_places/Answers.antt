use Rattle.ojp_feed.specs.Texts.{text_of_place}
use Rattle.ojp_feed.proofs.TextFacts.{grows_more}
use Rattle.ojp_feed.proofs.texts.put_places.Goals as goal

pub loop-place-preserved : goal.loop-place-preserved
loop-place-preserved c = grows_more text_of_place c.args.places.now c.loop-place.place-index c.place-item.result c.args.out.now.items c.loop-place.out.items c.put_place.new.out.items c.loop-place-test.true c.place-item.is c.loop-place.invariant c.in_ok-put_place.ensures
