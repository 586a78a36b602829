use Rattle.ojp_gateway.proofs.SeekFacts.{moved_steps, waits_steps, sought_by}
use Rattle.ojp_gateway.proofs.TraceFacts.{turn_gains}
use Rattle.ojp_gateway.proofs.OrderRunFacts.{moved_due, waits_due}
use Rattle.ojp_gateway.proofs.seeking.step_paced.Goals as goal

pub returns-in-Moved-clause-steps : goal.returns-in-Moved-clause-steps
returns-in-Moved-clause-steps g c =
    moved_steps c.args.book.now (g.L.Links.seen c.args.links.now) (g.L.Links.seen c.turn.new.links) (g.L.Links.seen c.rest.new.self) c.args.search.now c.turn.new.self
    c.rest.ensures (g.met.L.PacedLinks.patient c.args.links.now) c.in-Moved.ensures.turns

pub returns-in-Waits-clause-steps : goal.returns-in-Waits-clause-steps
returns-in-Waits-clause-steps g c =
    waits_steps c.args.book.now (g.L.Links.seen c.args.links.now) (g.L.Links.seen c.turn.new.links) (g.L.Links.seen c.rest-in-Waits.new.self) c.args.search.now c.turn.new.self
    c.rest-in-Waits.ensures (g.met.L.PacedLinks.patient c.args.links.now) c.in-Waits.ensures.turns

pub returns-in-Done-clause-steps : goal.returns-in-Done-clause-steps
returns-in-Done-clause-steps g c = sought_by c.args.book.now (g.L.Links.seen c.args.links.now) (g.L.Links.seen c.turn.new.links) c.args.search.now c.turn.new.self c.in-Done.outcome c.in-Done.ensures.turns

pub returns-in-Moved-clause-gains : goal.returns-in-Moved-clause-gains
returns-in-Moved-clause-gains g c = turn_gains c.args.book.now c.args.search.now c.turn.new.self c.args.trace.now c.turn.new.trace _ c.in-Moved.ensures.traces

pub returns-in-Waits-clause-gains : goal.returns-in-Waits-clause-gains
returns-in-Waits-clause-gains g c = turn_gains c.args.book.now c.args.search.now c.turn.new.self c.args.trace.now c.turn.new.trace _ c.in-Waits.ensures.traces

pub returns-in-Done-clause-gains : goal.returns-in-Done-clause-gains
returns-in-Done-clause-gains g c = turn_gains c.args.book.now c.args.search.now c.turn.new.self c.args.trace.now c.turn.new.trace _ c.in-Done.ensures.traces

pub returns-in-Moved-clause-ordered : goal.returns-in-Moved-clause-ordered
returns-in-Moved-clause-ordered g c =
    moved_due c.args.book.now (g.L.Links.seen c.args.links.now) (g.L.Links.seen c.turn.new.links) (g.L.Links.seen c.rest.new.self) c.args.search.now c.turn.new.self c.args.trace.now c.turn.new.trace
    c.rest.ensures c.in-Moved.ensures.turns c.in-Moved.ensures.traces c.in-Moved.ensures.ordered

pub returns-in-Waits-clause-ordered : goal.returns-in-Waits-clause-ordered
returns-in-Waits-clause-ordered g c =
    waits_due c.args.book.now (g.L.Links.seen c.args.links.now) (g.L.Links.seen c.turn.new.links) (g.L.Links.seen c.rest-in-Waits.new.self) c.args.search.now c.turn.new.self c.args.trace.now c.turn.new.trace
    c.rest-in-Waits.ensures c.in-Waits.ensures.turns c.in-Waits.ensures.traces c.in-Waits.ensures.ordered
