use Rattle.ojp_records.proofs.Falls.{starts_fall}
use Rattle.ojp_records.proofs.laws.starts_fall.Goals as goal

pub returns : goal.returns
returns c = starts_fall
