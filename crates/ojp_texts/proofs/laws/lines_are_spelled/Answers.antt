use Rattle.ojp_texts.proofs.LinesSpelled as facts
use Rattle.ojp_texts.proofs.laws.lines_are_spelled.Goals as goal

pub returns : goal.returns
returns c = facts.lines_are_spelled
