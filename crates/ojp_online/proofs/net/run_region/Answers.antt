use Rattle.ojp_online.specs.Commands.{text_in}
use Rattle.ojp_online.proofs.NetFacts.{due_if_region, due_without}
use Rattle.ojp_online.proofs.net.run_region.Goals as goal

pub returns-in-Some-clause-due : goal.returns-in-Some-clause-due
returns-in-Some-clause-due g c =
    due_if_region c.args.words.port.now (text_in c.args.words.count) c.in-Some.listening.port c.in-Some.listening.count c.in-Some.ensures c.region.result _ c.conclude.result c.conclude.ensures
    c.args.words.file.now _ _ _ c.region.ensures

pub returns-in-None-clause-due : goal.returns-in-None-clause-due
returns-in-None-clause-due g c status due =
    due_without c.args.words.port.now (text_in c.args.words.count) _ c.conclude-in-None.result status c.in-None.ensures c.conclude-in-None.ensures.0 due
