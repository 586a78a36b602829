use Rattle.ojp_network_laws.proofs.Numbered as facts
use Rattle.ojp_network_laws.proofs.laws.codes_rise.Goals as goal

pub returns : goal.returns
returns c = facts.codes_rise
