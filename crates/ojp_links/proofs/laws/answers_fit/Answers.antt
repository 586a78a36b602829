use Rattle.ojp_links.proofs.FitFacts.{answers_fit}
use Rattle.ojp_links.proofs.laws.answers_fit.Goals as goal

pub returns : goal.returns
returns c table ask delivery well sure answers = answers_fit table ask delivery well sure answers
