use Rattle.ojp_join.proofs.ChangeFacts.{changed_by}
use Rattle.ojp_join.proofs.rides.is_changed.Goals as goal

pub returns-in-None : goal.returns-in-None
returns-in-None c = λ t. c.in-None.ensures t.1 t.2

pub returns-in-Some : goal.returns-in-Some
returns-in-Some c =
    changed_by c.args.book.now c.args.need.now.stop c.args.region c.args.next c.in-Some.change c.args.end c.args.need.now.moment c.is_after.result c.is_well.ensures c.if-is_code.ensures c.in-Some.ensures c.is_after.ensures
