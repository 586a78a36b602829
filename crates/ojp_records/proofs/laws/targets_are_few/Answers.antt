use Rattle.ojp_records.proofs.EndCounts.{targets_are_few}
use Rattle.ojp_records.proofs.laws.targets_are_few.Goals as goal

pub returns : goal.returns
returns c = targets_are_few
