use Rattle.ojp_records.proofs.Falls.{best_falls}
use Rattle.ojp_records.proofs.laws.best_falls.Goals as goal

pub returns : goal.returns
returns c = best_falls
