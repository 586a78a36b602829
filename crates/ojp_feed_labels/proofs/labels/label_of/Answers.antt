use Rattle.ojp_feed_labels.proofs.LabelFacts.{dotted_short}
use Rattle.ojp_feed_labels.proofs.labels.label_of.Goals as goal

pub returns-in-Some-dotted-clause-short : goal.returns-in-Some-dotted-clause-short
returns-in-Some-dotted-clause-short c = dotted_short c.args.most c.args.id.now c.in-Some-dotted.label c.in-Some-dotted.ensures c.if-id-most.false
