use Rattle.ojp_stop_events.specs.Found.{AreFirst}
use Rattle.ojp_stop_events.proofs.answers.add_journey.Given as goal

abbrev pub invariant-calls : goal.invariant-calls
invariant-calls l = AreFirst l.table l.ask l.journey l.position 0 l.first.items
