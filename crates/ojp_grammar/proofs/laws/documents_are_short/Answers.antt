use Rattle.ojp_grammar.proofs.Lengths.{document_short}
use Rattle.ojp_grammar.proofs.laws.documents_are_short.Goals as goal

pub returns : goal.returns
returns c want doc wanted = document_short doc wanted.1
