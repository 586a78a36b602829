use Rattle.ojp_regions.proofs.RegionFacts as facts
use Rattle.ojp_regions.proofs.laws.text_is_one.Goals as goal

pub returns : goal.returns
returns c = facts.text_is_one
