use Rattle.std.proofs.Common.{◌≡◌, List, [], ◌∷◌, ◌+◌, length, ap, ◌∙◌, arith}
use Rattle.std.specs.List.{flat_map}
use Rattle.ojp_tables.specs.declared.names.TheConstants as names
use Rattle.ojp_grammar.specs.Items.{text, tag}
use Rattle.ojp_grammar.specs.Syntax.{put, put_each}
use Rattle.ojp_grammar.specs.Syntax as syntax
use Rattle.ojp_grammar.specs.Grammar.{FAULT, EVENT, EVENT_DELIVERY}
use Rattle.ojp_grammar.specs.Documents.{fault_said, event_said, events_reply_said}
use Rattle.ojp_values.specs.declared.replies.Fault.{Fault}
use Rattle.ojp_values.specs.declared.replies.EventsReply.{EventsReply}
use Rattle.ojp_values.specs.declared.replies.EventsReply.TheVariants as variants
use Rattle.ojp_values.specs.declared.trips.Event.{Event}
use Rattle.ojp_encode.specs.Writing.{spelling}
use Rattle.ojp_encode.proofs.Sizes.{sized_around, sized_list, size}
use Rattle.ojp_encode.proofs.replies.EventsReplySpelled.length.Goals as goal

of_list : (l : List Event) → length (spelling EVENT_DELIVERY (events_reply_said (variants.Events l))) ≡ size (put (syntax.text names.OJP_STOP_EVENT_DELIVERY) tt []) + (length (flat_map (λ x. spelling EVENT (event_said x)) l) + size (tag (names.OJP_STOP_EVENT_DELIVERY + 1) ∷ []))
unfolding spelling
of_list l = sized_list (syntax.text names.OJP_STOP_EVENT_DELIVERY) tt EVENT event_said l (tag (names.OJP_STOP_EVENT_DELIVERY + 1) ∷ [])

of_fault : (f : Fault) → length (spelling EVENT_DELIVERY (events_reply_said (variants.Fault f))) ≡ size (put (syntax.text names.OJP_STOP_EVENT_DELIVERY) tt []) + (length (spelling FAULT (fault_said f)) + size (tag (names.OJP_STOP_EVENT_DELIVERY + 1) ∷ []))
unfolding spelling
of_fault f = sized_around (syntax.text names.OJP_STOP_EVENT_DELIVERY) tt FAULT (fault_said f) (tag (names.OJP_STOP_EVENT_DELIVERY + 1) ∷ [])

pub returns-in-Events-clause-value : goal.returns-in-Events-clause-value
unfolding text
returns-in-Events-clause-value c =
    let each : c.length_each.result ≡ length (flat_map (λ x. spelling EVENT (event_said x)) c.in-Events.events) = c.length_each.ensures.value ∙ ap (λ (l : List Event). length (flat_map (λ x. spelling EVENT (event_said x)) l)) c.as_slice-events.ensures in
    omega (arith, ap (λ (r : EventsReply). length (spelling EVENT_DELIVERY (events_reply_said r))) c.in-Events.is, of_list c.in-Events.events, each)

pub returns-in-Fault-clause-value : goal.returns-in-Fault-clause-value
unfolding text
returns-in-Fault-clause-value c = omega (arith, ap (λ (r : EventsReply). length (spelling EVENT_DELIVERY (events_reply_said r))) c.in-Fault.is, of_fault c.in-Fault.fault, c.length.ensures.value)
