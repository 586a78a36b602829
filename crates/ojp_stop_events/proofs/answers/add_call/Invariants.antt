use Rattle.ojp_stop_events.specs.Found.{AreFirst}
use Rattle.ojp_stop_events.proofs.answers.add_call.Given as goal

abbrev pub invariant-days : goal.invariant-days
invariant-days l = AreFirst l.table l.ask l.journey l.position l.number l.first.items
