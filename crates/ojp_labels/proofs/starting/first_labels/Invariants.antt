use Rattle.ojp_labels.proofs.StartingFacts.{LabelledTo}
use Rattle.ojp_labels.proofs.starting.first_labels.Given as goal

abbrev pub invariant-places : goal.invariant-places
invariant-places l = LabelledTo l.book l.ask l.labels.items l.place
