use Rattle.std.proofs.Common.{List, [], ◌∷◌, ◌+◌, refl, sym, ap, ◌∙◌, subst, arith, All}
use Rattle.ojp_tables.specs.declared.names.TheConstants as names
use Rattle.ojp_grammar.specs.Items.{text, tag}
use Rattle.ojp_grammar.specs.Fields.{field_text}
use Rattle.ojp_grammar.specs.Syntax as syntax
use Rattle.ojp_grammar.specs.Syntax.{Fits}
use Rattle.ojp_grammar.specs.Grammar.{FAULT, EVENT, EVENT_DELIVERY}
use Rattle.ojp_grammar.specs.Documents.{fault_said, event_said, events_reply_said}
use Rattle.ojp_values.specs.Limits.{IsWellEventsReply}
use Rattle.ojp_values.specs.declared.replies.EventsReply.{EventsReply}
use Rattle.ojp_values.specs.declared.replies.EventsReply.TheVariants as variants
use Rattle.ojp_values.specs.declared.trips.Event.{Event}
use Rattle.ojp_encode.specs.Writing.{spelling}
use Rattle.ojp_encode.proofs.Filling.{Writes-around, Writes-list}
use Rattle.ojp_encode.proofs.Sequences.{Writes-same}
use Rattle.ojp_encode.proofs.Fitting.{ok_then, list_fits}
use Rattle.ojp_encode.proofs.replies.EventsReplySpelled.put.Goals as goal

pub returns-in-Events-clause-spelled : goal.returns-in-Events-clause-spelled
unfolding spelling text field_text
returns-in-Events-clause-spelled g c =
    Writes-same _ _ _ _ _ _ _
    (Writes-list (syntax.text names.OJP_STOP_EVENT_DELIVERY) tt EVENT event_said c.as_slice-events.result.now (tag (names.OJP_STOP_EVENT_DELIVERY + 1) ∷ []) _ _ _ _ _ ([]) c.put_list.ensures.spelled refl)
    (ap (λ (l : List Event). spelling EVENT_DELIVERY (events_reply_said (variants.Events l))) c.as_slice-events.ensures ∙ ap (λ (r : EventsReply). spelling EVENT_DELIVERY (events_reply_said r)) (sym c.in-Events.is))

pub returns-in-Fault-clause-spelled : goal.returns-in-Fault-clause-spelled
unfolding spelling text field_text
returns-in-Fault-clause-spelled g c =
    Writes-same _ _ _ _ _ _ _
    (Writes-around (syntax.text names.OJP_STOP_EVENT_DELIVERY) tt FAULT (fault_said c.in-Fault.fault) (tag (names.OJP_STOP_EVENT_DELIVERY + 1) ∷ []) _ _ _ _ _ [] c.put_around.ensures.spelled refl)
    (ap (λ (r : EventsReply). spelling EVENT_DELIVERY (events_reply_said r)) (sym c.in-Fault.is))

pub returns-in-Events-clause-fits : goal.returns-in-Events-clause-fits
returns-in-Events-clause-fits g c =
    let whole : All (λ (x : Event). Fits EVENT (event_said x)) c.as_slice-events.result.now → Fits EVENT_DELIVERY (events_reply_said c.args.self.now) = λ h. subst (λ (r : EventsReply). Fits EVENT_DELIVERY (events_reply_said r)) (sym c.in-Events.is) (tt, list_fits 0 100 EVENT (syntax.text (names.OJP_STOP_EVENT_DELIVERY + 1)) event_said c.as_slice-events.result.now c.in-Events.events tt c.as_slice-events.ensures (omega arith) (subst IsWellEventsReply c.in-Events.is c.requires) tt h) in
    ok_then _ (All (λ (x : Event). Fits EVENT (event_said x)) c.as_slice-events.result.now) (Fits EVENT_DELIVERY (events_reply_said c.args.self.now)) whole c.put_list.ensures.fits

pub returns-in-Fault-clause-fits : goal.returns-in-Fault-clause-fits
returns-in-Fault-clause-fits g c =
    let whole : Fits FAULT (fault_said c.in-Fault.fault) → Fits EVENT_DELIVERY (events_reply_said c.args.self.now) = λ h. subst (λ (r : EventsReply). Fits EVENT_DELIVERY (events_reply_said r)) (sym c.in-Fault.is) (tt, (h, tt)) in
    ok_then _ (Fits FAULT (fault_said c.in-Fault.fault)) (Fits EVENT_DELIVERY (events_reply_said c.args.self.now)) whole c.put_around.ensures.fits
