use Rattle.ojp_join.proofs.OutcomeFacts.{ends_answer}
use Rattle.ojp_join.proofs.laws.ends_answer.Goals as goal

pub returns : goal.returns
returns c = ends_answer
