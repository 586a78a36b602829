use Rattle.ojp_http.proofs.ReplyFacts.{taken_none}
use Rattle.ojp_http.proofs.reply.Reply.new.Goals as goal

pub returns-clause-fed : goal.returns-clause-fed
returns-clause-fed c = taken_none c.reply.result c.reply.ensures
