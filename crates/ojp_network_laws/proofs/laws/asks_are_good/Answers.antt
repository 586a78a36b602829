use Rattle.ojp_network_laws.proofs.Asks as facts
use Rattle.ojp_network_laws.proofs.laws.asks_are_good.Goals as goal

pub returns : goal.returns
returns c = facts.asks_are_good
