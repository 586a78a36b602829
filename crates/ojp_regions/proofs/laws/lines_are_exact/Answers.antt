use Rattle.ojp_regions.proofs.ExampleFacts as facts
use Rattle.ojp_regions.proofs.laws.lines_are_exact.Goals as goal

pub returns : goal.returns
returns c = facts.lines_are_exact
