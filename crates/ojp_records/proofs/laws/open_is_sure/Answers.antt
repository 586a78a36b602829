use Rattle.ojp_records.proofs.SureFacts.{open_is_sure}
use Rattle.ojp_records.proofs.laws.open_is_sure.Goals as goal

pub returns : goal.returns
returns c = open_is_sure
