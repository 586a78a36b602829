use Rattle.std.proofs.Common.{refl, sym, ◌∙◌}
use Rattle.ojp_feed_lines.proofs.OperatorFacts.{stop_there}
use Rattle.ojp_feed_lines.proofs.operator.add_change.Goals as goal

pub returns-then-has_stop-clause-refused : goal.returns-then-has_stop-clause-refused
returns-then-has_stop-clause-refused c =
    let (other, there, same) = stop_there c.args.changes.now.items c.deref.result.now c.args.change.stop c.deref.ensures.value (sym c.has_stop.ensures ∙ c.if-has_stop.true) in
    (refl, other, there, same)
