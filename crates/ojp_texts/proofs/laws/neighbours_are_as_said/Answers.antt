use Rattle.ojp_texts.proofs.PointsSaid as facts
use Rattle.ojp_texts.proofs.laws.neighbours_are_as_said.Goals as goal

pub returns : goal.returns
returns c = facts.neighbours_are_as_said
