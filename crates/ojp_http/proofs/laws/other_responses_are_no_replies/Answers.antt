use Rattle.ojp_http.proofs.WrittenReplies.{others_are_refused, no_memory_is_refused}
use Rattle.ojp_http.proofs.laws.other_responses_are_no_replies.Goals as goal

pub returns-clause-others : goal.returns-clause-others
returns-clause-others c = others_are_refused

pub returns-clause-no_memory : goal.returns-clause-no_memory
returns-clause-no_memory c = no_memory_is_refused
