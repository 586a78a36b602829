use Rattle.ojp_grammar.proofs.OnePlace.{more_refused, only_more_refused}
use Rattle.ojp_grammar.proofs.laws.written_is_read.Goals as goal

pub returns-clause-more : goal.returns-clause-more
returns-clause-more c = more_refused

pub returns-clause-only : goal.returns-clause-only
returns-clause-only c = only_more_refused
