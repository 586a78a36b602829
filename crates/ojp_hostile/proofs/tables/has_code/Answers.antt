use Rattle.ojp_values.specs.Texts.{same}
use Rattle.ojp_hostile.proofs.tables.has_code.Goals as goal

pub returns : goal.returns
unfolding same
returns c = c.contains.ensures.value
