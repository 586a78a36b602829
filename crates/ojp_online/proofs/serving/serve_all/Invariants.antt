use Rattle.std.proofs.Common.{◌≡◌}
use Rattle.ojp_grammar.specs.Answering.{AnswersBody}
use Rattle.ojp_steps.specs.Serving.{HasServed}
use Rattle.ojp_online.specs.Gateways.{GatewayGives, PassesOn}
use Rattle.ojp_online.proofs.serving.serve_all.Given as goal

abbrev pub invariant-serving : goal.invariant-serving
invariant-serving g l = record {
  passes : PassesOn l.fn.book (g.L.Links.seen l.fn.links) (g.L.Links.seen l.links);
  served : HasServed (AnswersBody (GatewayGives l.fn.book (g.L.Links.seen l.links))) (g.D.Doors.seen l.fn.doors) (g.D.Doors.seen l.doors);
  calm : g.D.Doors.faults l.doors ≡ g.D.Doors.faults l.fn.doors;
}
