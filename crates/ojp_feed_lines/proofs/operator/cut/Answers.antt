use Rattle.std.proofs.Common.{sym}
use Rattle.ojp_feed_lines.proofs.OperatorFacts.{cut_at, no_space}
use Rattle.ojp_feed_lines.proofs.operator.cut.Goals as goal

pub returns-in-Some : goal.returns-in-Some
returns-in-Some c = cut_at c.args.text.now c.in-Some.place (sym c.in-Some.ensures)

pub returns-in-None : goal.returns-in-None
returns-in-None c = no_space c.args.text.now (sym c.in-None.ensures)
