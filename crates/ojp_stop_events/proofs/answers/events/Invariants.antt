use Rattle.ojp_stop_events.specs.Found.{AreFirst}
use Rattle.ojp_stop_events.proofs.answers.events.Given as goal

abbrev pub invariant-journeys : goal.invariant-journeys
invariant-journeys l = AreFirst l.table l.ask l.journey 0 0 l.first.items
