use Rattle.ojp_gateway.proofs.HearFacts.{hears_start, hears_waits, hears_moved, waits_fall, moved_fall, hears_end}
use Rattle.ojp_gateway.proofs.learning.hear_resting.Goals as goal

pub hearing-init : goal.hearing-init
hearing-init g c = hears_start (g.L.Links.seen c.args.links.now) c.args.sub.now c.requires

pub hearing-preserved-in-Pending : goal.hearing-preserved-in-Pending
hearing-preserved-in-Pending g c =
    hears_waits (g.L.Links.seen c.args.links.now) (g.L.Links.seen c.hearing.links) (g.L.Links.seen c.poll.new.links) (g.L.Links.seen c.rest.new.self) c.args.sub.now c.hearing.sub c.poll.new.self
    c.hearing.invariant c.in-Pending.ensures.safe c.rest.ensures.idles c.in-Pending.ensures.polls

pub hearing-smaller-in-Pending : goal.hearing-smaller-in-Pending
hearing-smaller-in-Pending g c =
    waits_fall (g.L.Links.seen c.hearing.links) (g.L.Links.seen c.poll.new.links) (g.L.Links.seen c.rest.new.self) c.hearing.sub c.poll.new.self (g.met.L.PacedLinks.patient c.hearing.links) c.rest.ensures c.in-Pending.ensures.polls

pub hearing-preserved : goal.hearing-preserved
hearing-preserved g c =
    hears_moved (g.L.Links.seen c.args.links.now) (g.L.Links.seen c.hearing.links) (g.L.Links.seen c.poll.new.links) (g.L.Links.seen c.rest-in-Moved.new.self) c.args.sub.now c.hearing.sub c.poll.new.self
    c.hearing.invariant c.in-Moved.ensures.safe c.rest-in-Moved.ensures.idles c.in-Moved.ensures.polls

pub hearing-smaller : goal.hearing-smaller
hearing-smaller g c =
    moved_fall (g.L.Links.seen c.hearing.links) (g.L.Links.seen c.poll.new.links) (g.L.Links.seen c.rest-in-Moved.new.self) c.hearing.sub c.poll.new.self (g.met.L.PacedLinks.patient c.hearing.links) c.rest-in-Moved.ensures c.in-Moved.ensures.polls

pub returns-in-Over : goal.returns-in-Over
returns-in-Over g c =
    hears_end (g.L.Links.seen c.args.links.now) (g.L.Links.seen c.hearing.links) (g.L.Links.seen c.poll.new.links) c.args.sub.now c.hearing.sub c.poll.new.self c.in-Over.end
    c.hearing.invariant c.in-Over.ensures.polls c.in-Over.ensures.told c.in-Over.ensures.failed c.in-Over.ensures.safe
