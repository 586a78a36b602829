use Rattle.std.proofs.Common.{IfOk, subst}
use Rattle.ojp_timetable.specs.Tables.{Timetable}
use Rattle.ojp_links.specs.Replies.{ServesByTable}
use Rattle.ojp_links_mem.proofs.server.Server.reply.Goals as goal

pub returns-clause-serves : goal.returns-clause-serves
returns-clause-serves c = subst (λ (table : Timetable). IfOk c.served.result (λ reply. ServesByTable table c.args.request.items reply.items)) c.self.view_is c.served.ensures.serves
