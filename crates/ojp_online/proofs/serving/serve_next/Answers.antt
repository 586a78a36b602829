use Rattle.std.proofs.Common.{◌∙◌}
use Rattle.ojp_http.specs.Connections.{wire}
use Rattle.ojp_steps.proofs.ServingFacts.{served_one}
use Rattle.ojp_online.proofs.WidenFacts.{gateway_serves}
use Rattle.ojp_online.proofs.serving.serve_next.Goals as goal

pub returns-clause-served : goal.returns-clause-served
returns-clause-served g c = (
  served_one _ _ _ _ _ (g.D.In.Source.seen c.serve_waiting.new.input) _ (g.D.Out.Sink.seen c.serve_waiting.new.output) _ c.in-Ok.ensures.given c.in-Ok.ensures.told_empty
      (gateway_serves c.args.book.now (g.L.Links.seen c.args.links.now) (g.L.Links.seen c.serve_waiting.new.links) c.serve_waiting.result.told
      (wire (g.D.In.Source.seen c.in-Ok.connection.0) (g.D.Out.Sink.seen c.in-Ok.connection.1)) (wire (g.D.In.Source.seen c.serve_waiting.new.input) (g.D.Out.Sink.seen c.serve_waiting.new.output))
      c.serve_waiting.result.served c.serve_waiting.ensures.keeps c.serve_waiting.ensures.serves)
      c.serve_waiting.ensures.taken c.back.ensures.returned,
  c.back.ensures.at_rest ∙ c.in-Ok.ensures.at_rest (λ is. cc),
)
