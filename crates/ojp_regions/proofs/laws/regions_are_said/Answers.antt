use Rattle.ojp_regions.proofs.ExampleFacts as facts
use Rattle.ojp_regions.proofs.laws.regions_are_said.Goals as goal

pub returns : goal.returns
returns c = facts.regions_are_said
