use Rattle.std.proofs.Common.{length, ap, arith}
use Rattle.ojp_grammar.specs.Items.{text}
use Rattle.ojp_grammar.specs.Fields.{event_text}
use Rattle.ojp_grammar.specs.Grammar.{EVENT_ASK}
use Rattle.ojp_grammar.specs.Documents.{event_ask_said}
use Rattle.ojp_values.specs.declared.kinds.EventKind.{EventKind}
use Rattle.ojp_encode.proofs.Sizes.{sized}
use Rattle.ojp_encode.proofs.asks.EventAskSpelled.length.Goals as goal

pub returns-in-Departure-clause-value : goal.returns-in-Departure-clause-value
unfolding text
returns-in-Departure-clause-value c = omega (arith, sized EVENT_ASK (event_ask_said c.args.self.now), ap (λ (k : EventKind). length (event_text k)) c.in-Departure.is)

pub returns-in-Arrival-clause-value : goal.returns-in-Arrival-clause-value
unfolding text
returns-in-Arrival-clause-value c = omega (arith, sized EVENT_ASK (event_ask_said c.args.self.now), ap (λ (k : EventKind). length (event_text k)) c.in-Arrival.is)
