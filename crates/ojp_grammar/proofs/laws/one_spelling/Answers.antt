use Rattle.ojp_grammar.proofs.Spellings.{one_document}
use Rattle.ojp_grammar.proofs.laws.one_spelling.Goals as goal

pub returns : goal.returns
returns c = one_document
