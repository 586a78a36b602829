use Rattle.ojp_labels.proofs.SlotFacts.{this_by}
use Rattle.ojp_labels.proofs.comparing.is_this.Goals as goal

pub returns-in-Some : goal.returns-in-Some
returns-in-Some c = this_by c.args.slot.now c.in-Some.found c.args.query.now c.same_query.result c.in-Some.is c.same_query.ensures
