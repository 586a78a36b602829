use Rattle.std.proofs.Common.{arith}
use Rattle.ojp_grammar.specs.Items.{text}
use Rattle.ojp_grammar.specs.Grammar.{EVENT}
use Rattle.ojp_grammar.specs.Documents.{event_said}
use Rattle.ojp_encode.proofs.Sizes.{sized}
use Rattle.ojp_encode.proofs.stop_events.EventSpelled.length.Goals as goal

pub returns-clause-value : goal.returns-clause-value
unfolding text
returns-clause-value c = omega (arith, sized EVENT (event_said c.args.self.now))
