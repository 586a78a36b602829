use Rattle.std.proofs.Common.{sym}
use Rattle.std.proofs.lemmas.Option.{none-some}
use Rattle.ojp_subrequests.proofs.HeldFacts.{moved_held, pending_held, rest_held}
use Rattle.ojp_hostile.proofs.polls.poll_once.Goals as goal

pub returns-in-Pending : goal.returns-in-Pending
returns-in-Pending g c _ =
    let polled = g.L.Links.seen c.poll.new.links in
    rest_held c.poll.new.self polled (g.L.Links.seen c.rest.new.self) c.rest.ensures.idles (pending_held (g.L.Links.seen c.args.links.now) polled c.args.sub.now c.poll.new.self c.poll.result c.in-Pending.is c.poll.ensures.polls)

pub returns-in-Moved : goal.returns-in-Moved
returns-in-Moved g c _ =
    let polled = g.L.Links.seen c.poll.new.links in
    rest_held c.poll.new.self polled (g.L.Links.seen c.rest-in-Moved.new.self) c.rest-in-Moved.ensures.idles (moved_held (g.L.Links.seen c.args.links.now) polled c.args.sub.now c.poll.new.self c.poll.result c.in-Moved.is c.poll.ensures.polls)

pub returns-in-Over : goal.returns-in-Over
returns-in-Over g c e = absurd (none-some c.in-Over.end (sym e))
