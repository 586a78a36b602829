use Rattle.std.proofs.Common.{sym, ◌∙◌}
use Rattle.ojp_labels.proofs.TargetFacts.{declared_by}
use Rattle.ojp_labels.proofs.states.is_declared.Goals as goal

pub returns : goal.returns
returns c = declared_by c.args.book.now c.args.stop c.regions_at.result.now c.is_empty.result c.is_empty.ensures c.regions_at.ensures
