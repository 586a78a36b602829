use Rattle.ojp_encode.proofs.Sequences.{Writes-then, Writes-stopped}
use Rattle.ojp_encode.proofs.Fitting.{ok_given}
use Rattle.ojp_encode.proofs.lists.put_around.Goals as goal

pub returns-clause-spelled : goal.returns-clause-spelled
returns-clause-spelled g c =
    Writes-then _ _ _ _ _ _ _ _ _ _ c.in_ok-put.ensures (Writes-then _ _ _ _ _ _ _ _ _ _ c.in_ok-put-2.ensures.spelled c.put_end.ensures)

pub returns-in_err-put-2-clause-spelled : goal.returns-in_err-put-2-clause-spelled
returns-in_err-put-2-clause-spelled g c =
    Writes-then _ _ _ _ _ _ _ _ _ _ c.in_ok-put.ensures (Writes-stopped _ _ _ _ _ _ _ _ c.in_err-put-2.ensures.spelled c.from_residual-in_err-put-2.ensures.0)

pub returns-clause-fits : goal.returns-clause-fits
returns-clause-fits g c = ok_given _ _ c.in_ok-put-2.ensures.fits
