use Rattle.ojp_labels.proofs.StartingFacts.{first_label}
use Rattle.ojp_labels.proofs.starting.first_label.Goals as goal

pub returns : goal.returns
returns c = first_label c.args.book.now c.args.ask.now c.args.spot.now c.first_start.result c.has_target.result c.requires c.first_start.ensures c.has_target.ensures
