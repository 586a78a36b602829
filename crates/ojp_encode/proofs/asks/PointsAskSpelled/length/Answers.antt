use Rattle.std.proofs.Common.{List, ℕ, Option, None, Some, length, ap, arith}
use Rattle.ojp_grammar.specs.Items.{text}
use Rattle.ojp_grammar.specs.Grammar.{POINTS_ASK}
use Rattle.ojp_grammar.specs.Documents.{points_ask_said}
use Rattle.ojp_encode.specs.Writing.{spelling}
use Rattle.ojp_encode.proofs.Sizes.{sized}
use Rattle.ojp_encode.proofs.asks.PointsAskSpelled.length.Goals as goal

pub returns-in-None-clause-value : goal.returns-in-None-clause-value
unfolding text
returns-in-None-clause-value c = omega (arith, ap (λ (p : Option (List ℕ)). length (spelling POINTS_ASK (points_ask_said (record { place = p })))) c.in-None.is, sized POINTS_ASK (points_ask_said (record { place = None })))

pub returns-in-Some-clause-value : goal.returns-in-Some-clause-value
unfolding text
returns-in-Some-clause-value c = omega (arith, ap (λ (p : Option (List ℕ)). length (spelling POINTS_ASK (points_ask_said (record { place = p })))) c.in-Some.is, sized POINTS_ASK (points_ask_said (record { place = Some c.in-Some.stop })))
