use Rattle.ojp_regions.proofs.RegionFacts as facts
use Rattle.ojp_regions.proofs.laws.text_is_not_refused.Goals as goal

pub returns : goal.returns
returns c = facts.text_not_refused
