use Rattle.ojp_records.proofs.PairFacts.{pairs_are_listed}
use Rattle.ojp_records.proofs.laws.pairs_are_listed.Goals as goal

pub returns : goal.returns
returns c = pairs_are_listed
