use Rattle.ojp_http.specs.Connections.{wire}
use Rattle.ojp_timetable.specs.Answers.{RegionAnswers}
use Rattle.ojp_bodies.proofs.ServedFacts.{served_ask, serves_declined, serves_delivery, serves_without}
use Rattle.ojp_region.proofs.serving.serve_one.Goals as goal

-- the answer to the ask was written
pub deliver-requires : goal.deliver-requires
deliver-requires g c = c.in-Ok-answer.ensures.well c.in-Ok.ensures.gives.3

pub returns-in-Ok-answer-clause-serves : goal.returns-in-Ok-answer-clause-serves
returns-in-Ok-answer-clause-serves g c =
    serves_delivery (RegionAnswers c.args.table.now) (wire (g.I.Source.seen c.args.input.now) (g.O.Sink.seen c.args.output.now))
    (wire (g.I.Source.seen c.take_ask.new.input) (g.O.Sink.seen c.deliver.new.output))
    c.in-Ok.ask c.in-Ok-answer.delivery c.deliver.result c.in-Ok.ensures c.in-Ok-answer.ensures.answered c.deliver.ensures

pub returns-in-Ok-answer-clause-complete : goal.returns-in-Ok-answer-clause-complete
returns-in-Ok-answer-clause-complete g c =
    served_ask (RegionAnswers c.args.table.now) (wire (g.I.Source.seen c.args.input.now) (g.O.Sink.seen c.args.output.now))
    (wire (g.I.Source.seen c.take_ask.new.input) (g.O.Sink.seen c.deliver.new.output)) c.deliver.result (returns-in-Ok-answer-clause-serves g c)

pub returns-in-Ok-clause-serves : goal.returns-in-Ok-clause-serves
returns-in-Ok-clause-serves g c =
    serves_without (RegionAnswers c.args.table.now) (wire (g.I.Source.seen c.args.input.now) (g.O.Sink.seen c.args.output.now))
    (wire (g.I.Source.seen c.take_ask.new.input) (g.O.Sink.seen c.give_up.new.sink))
    c.in-Ok.ask c.give_up.result c.in-Ok.ensures (c.give_up.ensures.served, c.give_up.ensures.written)

-- the request asked nothing
pub returns-clause-serves : goal.returns-clause-serves
returns-clause-serves g c =
    serves_declined (RegionAnswers c.args.table.now) (wire (g.I.Source.seen c.args.input.now) (g.O.Sink.seen c.args.output.now))
    (wire (g.I.Source.seen c.take_ask.new.input) (g.O.Sink.seen c.decline.new.output))
    c.in-Err.declined c.decline.result c.in-Err.ensures c.decline.ensures

pub returns-clause-complete : goal.returns-clause-complete
returns-clause-complete g c =
    served_ask (RegionAnswers c.args.table.now) (wire (g.I.Source.seen c.args.input.now) (g.O.Sink.seen c.args.output.now))
    (wire (g.I.Source.seen c.take_ask.new.input) (g.O.Sink.seen c.decline.new.output)) c.decline.result (returns-clause-serves g c)
