use Rattle.ojp_grammar.proofs.Lengths.{request_short}
use Rattle.ojp_grammar.proofs.laws.requests_are_short.Goals as goal

pub returns : goal.returns
returns c doc wanted = request_short doc wanted
