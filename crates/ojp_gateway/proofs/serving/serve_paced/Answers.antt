use Rattle.std.proofs.Common.{sym, subst}
use Rattle.ojp_http.specs.Connections.{wire}
use Rattle.ojp_bodies.specs.Writing.{Declines}
use Rattle.ojp_gateway.proofs.ServedFacts.{serves_answered, serves_refused}
use Rattle.ojp_gateway.proofs.serving.serve_paced.Goals as goal

pub returns-in-Ok : goal.returns-in-Ok
returns-in-Ok g c =
    serves_answered c.args.book.now (g.L.Links.seen c.args.links.now) (g.L.Links.seen c.answer_paced-answer.new.links)
    (wire (g.I.Source.seen c.args.input.now) (g.O.Sink.seen c.args.output.now)) (wire (g.I.Source.seen c.take_ask.new.input) (g.O.Sink.seen c.conclude.new.output))
    c.conclude.result.served c.conclude.result.told c.in-Ok.ask c.answer_paced-answer.result c.in-Ok.ensures c.answer_paced-answer.ensures.answers c.conclude.ensures

pub returns-in-Err : goal.returns-in-Err
returns-in-Err g c =
    serves_refused c.args.book.now (g.L.Links.seen c.args.links.now)
    (wire (g.I.Source.seen c.args.input.now) (g.O.Sink.seen c.args.output.now)) (wire (g.I.Source.seen c.take_ask.new.input) (g.O.Sink.seen c.decline.new.output))
    c.without_record.result.served c.without_record.result.told c.in-Err.declined c.requires.none_live c.in-Err.ensures
    (subst (Declines c.in-Err.declined (g.O.Sink.seen c.args.output.now) (g.O.Sink.seen c.decline.new.output)) (sym c.without_record.ensures.served) c.decline.ensures) c.without_record.ensures.told
