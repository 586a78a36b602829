use Rattle.std.proofs.lemmas.List.{take_rest}
use Rattle.ojp_http.proofs.Feeding.{Goes-none, Goes-more, feeds_stop}
use Rattle.ojp_http.proofs.machine.Framing.feed.Goals as goal

pub feeding-init : goal.feeding-init
feeding-init c = Goes-none c.args.self.now c.args.piece.now c.args.body.now.items c.requires

pub feeding-preserved : goal.feeding-preserved
feeding-preserved c = Goes-more _ _ _ _ _ _ _ _ c.feeding.used c.in-Ok.count c.feeding.invariant (take_rest c.args.piece.now c.feeding.used) c.in-Ok.ensures

pub returns-in-Err : goal.returns-in-Err
returns-in-Err c = feeds_stop _ _ _ _ _ _ _ _ c.feeding.used c.in-Err.stop c.feeding.invariant (take_rest c.args.piece.now c.feeding.used) c.in-Err.ensures
