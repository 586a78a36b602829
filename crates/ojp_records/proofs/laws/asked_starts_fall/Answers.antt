use Rattle.ojp_records.proofs.BoardFacts.{asked_starts_fall}
use Rattle.ojp_records.proofs.laws.asked_starts_fall.Goals as goal

pub returns : goal.returns
returns c = asked_starts_fall
