use Rattle.std.proofs.Common.{arith}
use Rattle.ojp_grammar.specs.Items.{text}
use Rattle.ojp_grammar.specs.Grammar.{LEG}
use Rattle.ojp_grammar.specs.Documents.{leg_said}
use Rattle.ojp_encode.proofs.Sizes.{sized}
use Rattle.ojp_encode.proofs.trips.LegSpelled.length.Goals as goal

pub returns-clause-value : goal.returns-clause-value
unfolding text
returns-clause-value c = omega (arith, sized LEG (leg_said c.args.self.now))
