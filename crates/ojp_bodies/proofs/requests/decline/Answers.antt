use Rattle.std.proofs.Common.{ℕ, List, inl, sym, subst, ◌∙◌}
use Rattle.ojp_http.specs.Connections.{WritesAs}
use Rattle.ojp_http.specs.Serving.{response}
use Rattle.ojp_bodies.specs.declared.requests.Declined.{Declined}
use Rattle.ojp_bodies.specs.Writing.{Declines}
use Rattle.ojp_bodies.proofs.requests.decline.Goals as goal

pub returns-in-Ok : goal.returns-in-Ok
returns-in-Ok g c =
    subst (λ (declined : Declined). Declines declined (g.O.Sink.seen c.args.output.now) (g.O.Sink.seen c.respond.new.sink) c.respond.result) (sym c.in-Body.is)
    (inl (subst (λ (text : List ℕ). WritesAs 400 (response 400 text) (g.O.Sink.seen c.args.output.now) (g.O.Sink.seen c.respond.new.sink) c.respond.result) (c.written.ensures ∙ c.in-Ok.ensures) c.respond.ensures))
