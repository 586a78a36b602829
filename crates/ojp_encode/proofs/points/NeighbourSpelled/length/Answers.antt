use Rattle.std.proofs.Common.{arith}
use Rattle.ojp_grammar.specs.Items.{text}
use Rattle.ojp_grammar.specs.Grammar.{NEIGHBOUR}
use Rattle.ojp_grammar.specs.Documents.{neighbour_said}
use Rattle.ojp_encode.proofs.Sizes.{sized}
use Rattle.ojp_encode.proofs.points.NeighbourSpelled.length.Goals as goal

pub returns-clause-value : goal.returns-clause-value
unfolding text
returns-clause-value c = omega (arith, sized NEIGHBOUR (neighbour_said c.args.self.now))
