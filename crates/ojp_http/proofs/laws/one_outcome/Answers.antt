use Rattle.ojp_http.proofs.WholeMessages.{outcome_law}
use Rattle.ojp_http.proofs.laws.one_outcome.Goals as goal

pub returns : goal.returns
returns c = outcome_law
