use Rattle.std.proofs.Common.{List, sym, subst, arith}
use Rattle.ojp_values.specs.declared.trips.Event.{Event}
use Rattle.ojp_timetable.specs.Answers.{AreEvents}
use Rattle.ojp_stop_events.proofs.EventFacts.{all_found}
use Rattle.ojp_stop_events.proofs.answers.events.Goals as goal

pub returns : goal.returns
returns c =
    subst (λ (events : List Event). AreEvents c.args.table.now c.args.ask.now events) (sym c.from_items.ensures)
    (all_found c.args.table.now c.args.ask.now c.journeys.journey c.journeys.first.items (omega arith) c.journeys.invariant)
