use Rattle.ojp_vectors.specs.Cases.{stated}
use Rattle.ojp_vectors.proofs.Outcomes.{right_by}
use Rattle.ojp_vectors.proofs.vectors.is_right.Goals as goal

pub returns : goal.returns
returns c = right_by (stated c.args.case) c.in_ok-found.found c.is_same.result c.in_ok-found.ensures c.is_same.ensures
