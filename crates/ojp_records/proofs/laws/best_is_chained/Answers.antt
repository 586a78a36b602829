use Rattle.ojp_records.proofs.Chained.{best_is_chained}
use Rattle.ojp_records.proofs.laws.best_is_chained.Goals as goal

pub returns : goal.returns
returns c = best_is_chained
