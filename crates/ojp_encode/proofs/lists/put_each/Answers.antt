use Rattle.ojp_encode.proofs.Sequences.{Writes-within}
use Rattle.ojp_encode.proofs.lists.put_each.Goals as goal

pub returns-in_err-put-clause-spelled : goal.returns-in_err-put-clause-spelled
returns-in_err-put-clause-spelled g c =
    Writes-within _ _ _ _ _ _ _ _ _ _ _ _ _ c.loop-item.invariant.spelled c.loop-item-test.true c.item-item.is c.in_err-put.ensures.spelled c.from_residual.ensures.0
