use Rattle.ojp_online.proofs.NetFacts.{due_if_ask}
use Rattle.ojp_online.proofs.net.run_ask.Goals as goal

pub returns-in-Some-clause-due : goal.returns-in-Some-clause-due
returns-in-Some-clause-due g c =
    due_if_ask c.args.words.host.now c.args.words.port.now c.in-Some.port _ _ _ _ c.ask.result c.conclude.result c.in-Some.ensures c.ask.ensures.ends c.conclude.ensures
