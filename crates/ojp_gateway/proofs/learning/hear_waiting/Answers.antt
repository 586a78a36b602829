use Rattle.ojp_gateway.proofs.HearFacts.{hears_start, hears_waits, hears_moved, hears_end, idles_self}
use Rattle.ojp_gateway.proofs.learning.hear_waiting.Goals as goal

pub hearing-init : goal.hearing-init
hearing-init g c = hears_start (g.L.Links.seen c.args.links.now) c.args.sub.now c.requires

pub hearing-preserved-in-Pending : goal.hearing-preserved-in-Pending
hearing-preserved-in-Pending g c =
    hears_waits (g.L.Links.seen c.args.links.now) (g.L.Links.seen c.hearing.links) (g.L.Links.seen c.poll.new.links) (g.L.Links.seen c.wait.new.self) c.args.sub.now c.hearing.sub c.poll.new.self
    c.hearing.invariant c.in-Pending.ensures.safe c.wait.ensures c.in-Pending.ensures.polls

pub hearing-preserved : goal.hearing-preserved
hearing-preserved g c =
    hears_moved (g.L.Links.seen c.args.links.now) (g.L.Links.seen c.hearing.links) (g.L.Links.seen c.poll.new.links) (g.L.Links.seen c.poll.new.links) c.args.sub.now c.hearing.sub c.poll.new.self
    c.hearing.invariant c.in-Moved.ensures.safe (idles_self (g.L.Links.seen c.poll.new.links)) c.in-Moved.ensures.polls

pub returns-in-Over : goal.returns-in-Over
returns-in-Over g c =
    hears_end (g.L.Links.seen c.args.links.now) (g.L.Links.seen c.hearing.links) (g.L.Links.seen c.poll.new.links) c.args.sub.now c.hearing.sub c.poll.new.self c.in-Over.end
    c.hearing.invariant c.in-Over.ensures.polls c.in-Over.ensures.told c.in-Over.ensures.failed c.in-Over.ensures.safe
