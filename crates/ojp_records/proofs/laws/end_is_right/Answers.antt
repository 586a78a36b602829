use Rattle.ojp_records.proofs.EndFacts.{end_is_right}
use Rattle.ojp_records.proofs.laws.end_is_right.Goals as goal

pub returns : goal.returns
returns c = end_is_right
