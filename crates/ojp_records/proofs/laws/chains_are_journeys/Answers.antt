use Rattle.ojp_records.proofs.ChainFacts.{chains_are_journeys}
use Rattle.ojp_records.proofs.laws.chains_are_journeys.Goals as goal

pub returns : goal.returns
returns c = chains_are_journeys
