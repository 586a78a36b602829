use Rattle.std.proofs.Common.{◌∙◌, refl}
use Rattle.ojp_grammar.specs.Answering.{AnswersBody}
use Rattle.ojp_steps.specs.Serving.{DoorsSeen, seen_as}
use Rattle.ojp_steps.proofs.ServingFacts.{served_none, served_more, served_until}
use Rattle.ojp_online.specs.Gateways.{GatewayGives}
use Rattle.ojp_online.proofs.PassFacts.{passes_self, passes_more, regions_on}
use Rattle.ojp_online.proofs.WidenFacts.{gateway_served}
use Rattle.ojp_online.proofs.serving.serve_all.Goals as goal

pub serving-init : goal.serving-init
serving-init g c = record {
  passes = passes_self c.args.book.now (g.L.Links.seen c.args.links.now) c.requires.none_live;
  served = served_none _ _ c.requires.none_out c.requires.fresh;
  calm = refl;
}

pub serve_next-requires-clause-regions : goal.serve_next-requires-clause-regions
serve_next-requires-clause-regions g c =
    regions_on c.args.book.now (g.L.Links.seen c.args.links.now) (g.L.Links.seen c.serving.links) c.serving.invariant.passes.keeps c.requires.regions

pub returns-in-Err-clause-passes : goal.returns-in-Err-clause-passes
returns-in-Err-clause-passes g c =
    passes_more c.args.book.now (g.L.Links.seen c.args.links.now) (g.L.Links.seen c.serving.links) (g.L.Links.seen c.serve_next.new.links) c.serving.invariant.passes c.in-Err.ensures.passes

pub returns-in-Err-clause-serves : goal.returns-in-Err-clause-serves
returns-in-Err-clause-serves g c =
    let old : DoorsSeen = seen_as (g.D.Doors.seen c.args.doors.now) (g.D.Doors.faults c.args.doors.now) in
    let mid : DoorsSeen = seen_as (g.D.Doors.seen c.serving.doors) (g.D.Doors.faults c.serving.doors) in
    let new : DoorsSeen = seen_as (g.D.Doors.seen c.serve_next.new.doors) (g.D.Doors.faults c.serve_next.new.doors) in
    served_until _ old mid new
    (gateway_served c.args.book.now (g.L.Links.seen c.serving.links) (g.L.Links.seen c.serve_next.new.links) old.view mid.view c.in-Err.ensures.passes.keeps c.serving.invariant.served)
    c.serving.invariant.calm c.in-Err.refused c.in-Err.ensures.served

pub serving-preserved : goal.serving-preserved
serving-preserved g c = record {
  passes = passes_more c.args.book.now (g.L.Links.seen c.args.links.now) (g.L.Links.seen c.serving.links) (g.L.Links.seen c.serve_next.new.links) c.serving.invariant.passes c.serve_next.ensures.passes;
  served = served_more (AnswersBody (GatewayGives c.args.book.now (g.L.Links.seen c.serve_next.new.links))) _ _ _
      (gateway_served c.args.book.now (g.L.Links.seen c.serving.links) (g.L.Links.seen c.serve_next.new.links) _ _ c.serve_next.ensures.passes.keeps c.serving.invariant.served) c.in-Ok.ensures.served.0;
  calm = c.in-Ok.ensures.served.1 ∙ c.serving.invariant.calm;
}
