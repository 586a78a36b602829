use Rattle.ojp_feed.specs.Texts.{text_of_service}
use Rattle.ojp_feed.proofs.TextFacts.{grows_more}
use Rattle.ojp_feed.proofs.texts.put_services.Goals as goal

pub loop-days-preserved : goal.loop-days-preserved
loop-days-preserved c = grows_more text_of_service c.args.services.now c.loop-days.days-index c.days-item.result c.args.out.now.items c.loop-days.out.items c.put_service.new.out.items c.loop-days-test.true c.days-item.is c.loop-days.invariant c.in_ok-put_service.ensures
