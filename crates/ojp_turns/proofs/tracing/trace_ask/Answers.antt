use Rattle.std.proofs.Common.{[], ◌∷◌}
use Rattle.ojp_turns.proofs.TraceFacts.{adds_one, grew_more}
use Rattle.ojp_traces.specs.declared.events.Event.TheVariants.{Asked, Failed}
use Rattle.ojp_turns.proofs.tracing.trace_ask.Goals as goal

pub returns-then-not-refused-clause-grew : goal.returns-then-not-refused-clause-grew
returns-then-not-refused-clause-grew c =
    (Asked c.args.number c.args.query ∷ [], adds_one c.args.turn c.args.trace.now c.add.new.self (Asked c.args.number c.args.query) c.in-Ok.ensures.ok)

pub returns-clause-grew : goal.returns-clause-grew
returns-clause-grew c =
    grew_more c.add-2.result c.args.turn c.args.trace.now c.add.new.self c.add-2.new.self (Failed c.args.number)
    (Asked c.args.number c.args.query ∷ [], adds_one c.args.turn c.args.trace.now c.add.new.self (Asked c.args.number c.args.query) c.in-Ok.ensures.ok) c.add-2.ensures.ok c.add-2.ensures.err
