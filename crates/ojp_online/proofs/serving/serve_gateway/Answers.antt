use Rattle.std.proofs.Common.{inr}
use Rattle.ojp_grammar.specs.Answering.{AnswersBody}
use Rattle.ojp_steps.specs.Lent.{lent}
use Rattle.ojp_steps.specs.Serving.{DoorsSeen, seen_as}
use Rattle.ojp_steps.proofs.ServingFacts.{all_served, not_started, part_served}
use Rattle.ojp_online.specs.Gateways.{GatewayGives}
use Rattle.ojp_online.proofs.PassFacts.{passes_self}
use Rattle.ojp_online.proofs.serving.serve_gateway.Goals as goal

pub returns-in-Closed-clause-serves : goal.returns-in-Closed-clause-serves
returns-in-Closed-clause-serves g c =
    let mid : DoorsSeen = seen_as (g.D.Doors.seen c.start.new.doors) (g.D.Doors.faults c.start.new.doors) in
    (c.in-Ok.ensures.0, all_served _ _ _ _ mid c.in-Ok.ensures.1.view c.in-Ok.ensures.1.calm c.in-Closed.ensures.serves)

pub returns-in-Failed-clause-serves : goal.returns-in-Failed-clause-serves
returns-in-Failed-clause-serves g c =
    let mid : DoorsSeen = seen_as (g.D.Doors.seen c.start.new.doors) (g.D.Doors.faults c.start.new.doors) in
    inr (c.in-Ok.ensures.0, part_served _ _ _ _ mid c.in-Ok.ensures.1.view c.in-Ok.ensures.1.calm c.in-Failed.ensures.serves)

pub returns-in-Err-clause-passes : goal.returns-in-Err-clause-passes
returns-in-Err-clause-passes g c = passes_self c.args.book.now (g.L.Links.seen c.args.links.now) c.requires.none_live

pub returns-in-Err-clause-serves : goal.returns-in-Err-clause-serves
returns-in-Err-clause-serves g c =
    not_started (AnswersBody (GatewayGives c.args.book.now (g.L.Links.seen c.args.links.now))) c.args.listening.port c.args.listening.count (lent g.O.Sink.seen c.args.output.now c.start.new.output)
    (lent (λ d. seen_as (g.D.Doors.seen d) (g.D.Doors.faults d)) c.args.doors.now c.start.new.doors) c.in-Err.refused c.in-Err.ensures
