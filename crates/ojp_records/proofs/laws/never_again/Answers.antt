use Rattle.ojp_records.proofs.Falls.{never_again}
use Rattle.ojp_records.proofs.laws.never_again.Goals as goal

pub returns : goal.returns
returns c = never_again
