use Rattle.ojp_steps.proofs.PieceFacts.{end_ok, end_err}
use Rattle.ojp_steps.proofs.input.finish.Goals as goal

pub returns-in-Ok : goal.returns-in-Ok
returns-in-Ok c want fed taken = end_ok want fed c.args.reader c.in-Ok.document taken c.in-Ok.ensures

pub returns-in-Err : goal.returns-in-Err
returns-in-Err c want fed taken =
    end_err want fed c.args.reader c.in-Err.refused c.refusal_of.result taken c.in-Err.ensures c.refusal_of.ensures
