use Rattle.std.proofs.Common.{arith}
use Rattle.ojp_grammar.specs.Items.{text}
use Rattle.ojp_grammar.specs.Grammar.{TRIP_ASK}
use Rattle.ojp_grammar.specs.Documents.{trip_ask_said}
use Rattle.ojp_encode.proofs.Sizes.{sized}
use Rattle.ojp_encode.proofs.asks.TripAskSpelled.length.Goals as goal

pub returns-clause-value : goal.returns-clause-value
unfolding text
returns-clause-value c = omega (arith, sized TRIP_ASK (trip_ask_said c.args.self.now))
