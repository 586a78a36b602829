use Rattle.ojp_records.proofs.FailFacts.{failure_drops_one}
use Rattle.ojp_records.proofs.laws.failure_drops_one.Goals as goal

pub returns : goal.returns
returns c = failure_drops_one
