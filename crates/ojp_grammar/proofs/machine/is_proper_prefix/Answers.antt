use Rattle.ojp_grammar.proofs.Cuts.{cut_is}
use Rattle.ojp_grammar.proofs.machine.is_proper_prefix.Goals as goal

pub returns-then-bytes-text : goal.returns-then-bytes-text
returns-then-bytes-text c = cut_is c.args.bytes.now c.args.text.now c.starts_with.result c.if-bytes-text.true c.starts_with.ensures.value
