use Rattle.ojp_grammar.proofs.OnePlace.{one_refusal}
use Rattle.ojp_grammar.proofs.laws.one_place.Goals as goal

pub returns : goal.returns
returns c = one_refusal
