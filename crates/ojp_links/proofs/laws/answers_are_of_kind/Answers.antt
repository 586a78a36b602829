use Rattle.ojp_links.proofs.KindFacts.{of_kind}
use Rattle.ojp_links.proofs.laws.answers_are_of_kind.Goals as goal

pub returns : goal.returns
returns c table ask delivery answers = of_kind table ask delivery answers
