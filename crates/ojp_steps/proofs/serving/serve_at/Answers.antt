use Rattle.std.proofs.Common.{inr}
use Rattle.ojp_grammar.specs.Answering.{AnswersBody}
use Rattle.ojp_timetable.specs.Answers.{RegionAnswers}
use Rattle.ojp_steps.specs.Lent.{lent}
use Rattle.ojp_steps.specs.Serving.{DoorsSeen, seen_as}
use Rattle.ojp_steps.proofs.ServingFacts.{all_served, not_started, part_served}
use Rattle.ojp_steps.proofs.serving.serve_at.Goals as goal

pub returns-in-Err-start : goal.returns-in-Err-start
returns-in-Err-start g c =
    not_started (AnswersBody (RegionAnswers c.args.table.now)) c.args.listening.port c.args.listening.count (lent g.O.Sink.seen c.args.output.now c.start.new.output)
    (lent (λ d. seen_as (g.D.Doors.seen d) (g.D.Doors.faults d)) c.args.doors.now c.start.new.doors) c.in-Err-start.refused c.in-Err-start.ensures

pub returns-in-Closed : goal.returns-in-Closed
returns-in-Closed g c =
    let mid : DoorsSeen = seen_as (g.D.Doors.seen c.start.new.doors) (g.D.Doors.faults c.start.new.doors) in
    (c.in-Ok-start.ensures.0, all_served _ _ _ _ mid c.in-Ok-start.ensures.1.view c.in-Ok-start.ensures.1.calm c.in-Closed.ensures)

pub returns : goal.returns
returns g c =
    let mid : DoorsSeen = seen_as (g.D.Doors.seen c.start.new.doors) (g.D.Doors.faults c.start.new.doors) in
    inr (c.in-Ok-start.ensures.0, part_served _ _ _ _ mid c.in-Ok-start.ensures.1.view c.in-Ok-start.ensures.1.calm c.in-Failed.ensures)
