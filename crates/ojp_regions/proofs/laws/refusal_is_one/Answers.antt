use Rattle.ojp_regions.proofs.RegionFacts as facts
use Rattle.ojp_regions.proofs.laws.refusal_is_one.Goals as goal

pub returns : goal.returns
returns c = facts.refusal_is_one
