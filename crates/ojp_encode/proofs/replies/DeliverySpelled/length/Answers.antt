use Rattle.std.proofs.Common.{length, sym, ap, ◌∙◌}
use Rattle.ojp_grammar.specs.Grammar.{REPLY}
use Rattle.ojp_grammar.specs.Documents.{reply_said}
use Rattle.ojp_values.specs.declared.replies.Delivery.{Delivery}
use Rattle.ojp_encode.specs.Writing.{spelling}
use Rattle.ojp_encode.proofs.replies.DeliverySpelled.length.Goals as goal

pub returns-in-Trip-clause-value : goal.returns-in-Trip-clause-value
unfolding spelling
returns-in-Trip-clause-value c = c.length.ensures.value ∙ ap (λ (a : Delivery). length (spelling REPLY (reply_said a))) (sym c.in-Trip.is)

pub returns-in-Multi-clause-value : goal.returns-in-Multi-clause-value
unfolding spelling
returns-in-Multi-clause-value c = c.length-in-Multi.ensures.value ∙ ap (λ (a : Delivery). length (spelling REPLY (reply_said a))) (sym c.in-Multi.is)

pub returns-in-Events-clause-value : goal.returns-in-Events-clause-value
unfolding spelling
returns-in-Events-clause-value c = c.length-in-Events.ensures.value ∙ ap (λ (a : Delivery). length (spelling REPLY (reply_said a))) (sym c.in-Events.is)

pub returns-in-Points-clause-value : goal.returns-in-Points-clause-value
unfolding spelling
returns-in-Points-clause-value c = c.length-in-Points.ensures.value ∙ ap (λ (a : Delivery). length (spelling REPLY (reply_said a))) (sym c.in-Points.is)
