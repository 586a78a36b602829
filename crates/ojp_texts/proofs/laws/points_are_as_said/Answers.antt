use Rattle.ojp_texts.proofs.PointsSaid as facts
use Rattle.ojp_texts.proofs.laws.points_are_as_said.Goals as goal

pub returns : goal.returns
returns c = facts.points_are_as_said
