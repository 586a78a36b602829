use Rattle.std.proofs.Common.{[], ◌∷◌, ◌+◌, refl, sym, ap, subst}
use Rattle.ojp_tables.specs.declared.names.TheConstants as names
use Rattle.ojp_grammar.specs.Items.{text, tag}
use Rattle.ojp_grammar.specs.Fields.{field_text}
use Rattle.ojp_grammar.specs.Syntax as syntax
use Rattle.ojp_grammar.specs.Syntax.{Fits}
use Rattle.ojp_grammar.specs.Grammar.{TRIP, FAULT, TRIP_DELIVERY}
use Rattle.ojp_grammar.specs.Documents.{trip_said, fault_said, trip_reply_said}
use Rattle.ojp_values.specs.declared.replies.TripReply.{TripReply}
use Rattle.ojp_encode.specs.Writing.{spelling}
use Rattle.ojp_encode.proofs.Filling.{Writes-around}
use Rattle.ojp_encode.proofs.Sequences.{Writes-same}
use Rattle.ojp_encode.proofs.Fitting.{ok_then}
use Rattle.ojp_encode.proofs.replies.TripReplySpelled.put.Goals as goal

pub returns-in-Trip-clause-spelled : goal.returns-in-Trip-clause-spelled
unfolding spelling text field_text
returns-in-Trip-clause-spelled g c =
    Writes-same _ _ _ _ _ _ _
    (Writes-around (syntax.both (syntax.text names.OJP_TRIP_DELIVERY) (syntax.text names.TRIP_RESULT)) (tt, tt) TRIP (trip_said c.in-Trip.trip) (tag (names.TRIP_RESULT + 1) ∷ tag (names.OJP_TRIP_DELIVERY + 1) ∷ []) _ _ _ _ _ [] c.put_around.ensures.spelled refl)
    (ap (λ (r : TripReply). spelling TRIP_DELIVERY (trip_reply_said r)) (sym c.in-Trip.is))

pub returns-in-Fault-clause-spelled : goal.returns-in-Fault-clause-spelled
unfolding spelling text field_text
returns-in-Fault-clause-spelled g c =
    Writes-same _ _ _ _ _ _ _
    (Writes-around (syntax.text names.OJP_TRIP_DELIVERY) tt FAULT (fault_said c.in-Fault.fault) (tag (names.OJP_TRIP_DELIVERY + 1) ∷ []) _ _ _ _ _ [] c.put_around-in-Fault.ensures.spelled refl)
    (ap (λ (r : TripReply). spelling TRIP_DELIVERY (trip_reply_said r)) (sym c.in-Fault.is))

pub returns-in-Trip-clause-fits : goal.returns-in-Trip-clause-fits
returns-in-Trip-clause-fits g c =
    let whole : Fits TRIP (trip_said c.in-Trip.trip) → Fits TRIP_DELIVERY (trip_reply_said c.args.self.now) = λ h. subst (λ (r : TripReply). Fits TRIP_DELIVERY (trip_reply_said r)) (sym c.in-Trip.is) (tt, ((tt, (h, tt)), tt)) in
    ok_then _ (Fits TRIP (trip_said c.in-Trip.trip)) (Fits TRIP_DELIVERY (trip_reply_said c.args.self.now)) whole c.put_around.ensures.fits

pub returns-in-Fault-clause-fits : goal.returns-in-Fault-clause-fits
returns-in-Fault-clause-fits g c =
    let whole : Fits FAULT (fault_said c.in-Fault.fault) → Fits TRIP_DELIVERY (trip_reply_said c.args.self.now) = λ h. subst (λ (r : TripReply). Fits TRIP_DELIVERY (trip_reply_said r)) (sym c.in-Fault.is) (tt, (h, tt)) in
    ok_then _ (Fits FAULT (fault_said c.in-Fault.fault)) (Fits TRIP_DELIVERY (trip_reply_said c.args.self.now)) whole c.put_around-in-Fault.ensures.fits
