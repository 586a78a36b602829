use Rattle.ojp_records.proofs.BoardFacts.{starts_are_low}
use Rattle.ojp_records.proofs.laws.starts_are_low.Goals as goal

pub returns : goal.returns
returns c = starts_are_low
