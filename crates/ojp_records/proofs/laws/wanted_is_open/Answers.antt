use Rattle.ojp_records.proofs.BoardFacts.{wanted_is_open}
use Rattle.ojp_records.proofs.laws.wanted_is_open.Goals as goal

pub returns : goal.returns
returns c = wanted_is_open
