use Rattle.std.proofs.Common.{arith}
use Rattle.ojp_grammar.specs.Items.{text}
use Rattle.ojp_grammar.specs.Grammar.{TO}
use Rattle.ojp_grammar.specs.Documents.{to_said}
use Rattle.ojp_encode.proofs.Sizes.{sized}
use Rattle.ojp_encode.proofs.asks.StopRefSpelled.length.Goals as goal

pub returns-clause-value : goal.returns-clause-value
unfolding text
returns-clause-value c = omega (arith, sized TO (to_said c.args.self.now))
