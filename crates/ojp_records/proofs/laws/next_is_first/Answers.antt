use Rattle.ojp_records.proofs.NextFacts.{next_is_first}
use Rattle.ojp_records.proofs.laws.next_is_first.Goals as goal

pub returns : goal.returns
returns c = next_is_first
