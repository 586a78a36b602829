use Rattle.ojp_records.proofs.BoardFacts.{wanted_starts_are_within}
use Rattle.ojp_records.proofs.laws.wanted_starts_are_within.Goals as goal

pub returns : goal.returns
returns c = wanted_starts_are_within
