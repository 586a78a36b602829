use Rattle.ojp_http.proofs.WrittenReplies.{answer_is_reply}
use Rattle.ojp_http.proofs.laws.an_answer_is_a_reply.Goals as goal

pub returns : goal.returns
returns c = answer_is_reply
