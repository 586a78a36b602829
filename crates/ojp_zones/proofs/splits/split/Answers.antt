use Rattle.std.proofs.Common.{sym, ◌∙◌}
use Rattle.ojp_zones.proofs.PartsFacts.{parts-nonempty}
use Rattle.ojp_zones.proofs.splits.split.Goals as goal

pub returns-in_default : goal.returns-in_default
returns-in_default c = absurd (parts-nonempty c.args.separator c.args.text.now (sym c.new-parts.ensures ∙ c.in_default.ensures.0))
