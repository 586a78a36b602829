use Rattle.std.proofs.Common.{◌∙◌, refl}
use Rattle.ojp_steps.specs.Serving.{DoorsSeen, seen_as}
use Rattle.ojp_steps.proofs.ServingFacts.{served_none, served_more, served_until}
use Rattle.ojp_steps.proofs.serving.serve_all.Goals as goal

pub serving-init : goal.serving-init
serving-init g c = (c.requires.made, served_none _ _ c.requires.none_out c.requires.fresh, refl)

pub returns-in-Err : goal.returns-in-Err
returns-in-Err g c =
    let old : DoorsSeen = seen_as (g.D.Doors.seen c.args.doors.now) (g.D.Doors.faults c.args.doors.now) in
    let mid : DoorsSeen = seen_as (g.D.Doors.seen c.serving.doors) (g.D.Doors.faults c.serving.doors) in
    let new : DoorsSeen = seen_as (g.D.Doors.seen c.serve_next.new.doors) (g.D.Doors.faults c.serve_next.new.doors) in
    served_until _ old mid new c.serving.invariant.1 c.serving.invariant.2 c.in-Err.refused c.in-Err.ensures.served

pub serving-preserved : goal.serving-preserved
serving-preserved g c =
    (c.serve_next.ensures.made, served_more _ _ _ _ c.serving.invariant.1 c.in-Ok.ensures.served.0, c.in-Ok.ensures.served.1 ∙ c.serving.invariant.2)
