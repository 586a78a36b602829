use Rattle.ojp_http.proofs.FewFacts.{few_are_within}
use Rattle.ojp_http.proofs.laws.few_are_within.Goals as goal

pub returns : goal.returns
returns c = few_are_within
