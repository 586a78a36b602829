use Rattle.std.proofs.Common.{sym, ap, subst}
use Rattle.ojp_grammar.specs.Items.{text}
use Rattle.ojp_grammar.specs.Fields.{field_text}
use Rattle.ojp_grammar.specs.Syntax.{Fits}
use Rattle.ojp_grammar.specs.Grammar.{TRIP_DELIVERY, MULTI_DELIVERY, EVENT_DELIVERY, POINTS_DELIVERY, REPLY}
use Rattle.ojp_grammar.specs.Documents.{trip_reply_said, multi_reply_said, events_reply_said, points_reply_said, reply_said}
use Rattle.ojp_values.specs.declared.replies.Delivery.{Delivery}
use Rattle.ojp_encode.specs.Writing.{spelling}
use Rattle.ojp_encode.proofs.Sequences.{Writes-same}
use Rattle.ojp_encode.proofs.Fitting.{ok_then}
use Rattle.ojp_encode.proofs.replies.DeliverySpelled.put.Goals as goal

pub returns-in-Trip-clause-spelled : goal.returns-in-Trip-clause-spelled
unfolding spelling text field_text
returns-in-Trip-clause-spelled g c =
    Writes-same _ _ _ _ _ _ _
    (c.put.ensures.spelled)
    (ap (λ (r : Delivery). spelling REPLY (reply_said r)) (sym c.in-Trip.is))

pub returns-in-Multi-clause-spelled : goal.returns-in-Multi-clause-spelled
unfolding spelling text field_text
returns-in-Multi-clause-spelled g c =
    Writes-same _ _ _ _ _ _ _
    (c.put-in-Multi.ensures.spelled)
    (ap (λ (r : Delivery). spelling REPLY (reply_said r)) (sym c.in-Multi.is))

pub returns-in-Events-clause-spelled : goal.returns-in-Events-clause-spelled
unfolding spelling text field_text
returns-in-Events-clause-spelled g c =
    Writes-same _ _ _ _ _ _ _
    (c.put-in-Events.ensures.spelled)
    (ap (λ (r : Delivery). spelling REPLY (reply_said r)) (sym c.in-Events.is))

pub returns-in-Points-clause-spelled : goal.returns-in-Points-clause-spelled
unfolding spelling text field_text
returns-in-Points-clause-spelled g c =
    Writes-same _ _ _ _ _ _ _
    (c.put-in-Points.ensures.spelled)
    (ap (λ (r : Delivery). spelling REPLY (reply_said r)) (sym c.in-Points.is))

pub returns-in-Trip-clause-fits : goal.returns-in-Trip-clause-fits
returns-in-Trip-clause-fits g c =
    let whole : Fits TRIP_DELIVERY (trip_reply_said c.in-Trip.reply) → Fits REPLY (reply_said c.args.self.now) = λ h. subst (λ (r : Delivery). Fits REPLY (reply_said r)) (sym c.in-Trip.is) h in
    ok_then _ (Fits TRIP_DELIVERY (trip_reply_said c.in-Trip.reply)) (Fits REPLY (reply_said c.args.self.now)) whole c.put.ensures.fits

pub returns-in-Multi-clause-fits : goal.returns-in-Multi-clause-fits
returns-in-Multi-clause-fits g c =
    let whole : Fits MULTI_DELIVERY (multi_reply_said c.in-Multi.reply) → Fits REPLY (reply_said c.args.self.now) = λ h. subst (λ (r : Delivery). Fits REPLY (reply_said r)) (sym c.in-Multi.is) h in
    ok_then _ (Fits MULTI_DELIVERY (multi_reply_said c.in-Multi.reply)) (Fits REPLY (reply_said c.args.self.now)) whole c.put-in-Multi.ensures.fits

pub returns-in-Events-clause-fits : goal.returns-in-Events-clause-fits
returns-in-Events-clause-fits g c =
    let whole : Fits EVENT_DELIVERY (events_reply_said c.in-Events.reply) → Fits REPLY (reply_said c.args.self.now) = λ h. subst (λ (r : Delivery). Fits REPLY (reply_said r)) (sym c.in-Events.is) h in
    ok_then _ (Fits EVENT_DELIVERY (events_reply_said c.in-Events.reply)) (Fits REPLY (reply_said c.args.self.now)) whole c.put-in-Events.ensures.fits

pub returns-in-Points-clause-fits : goal.returns-in-Points-clause-fits
returns-in-Points-clause-fits g c =
    let whole : Fits POINTS_DELIVERY (points_reply_said c.in-Points.reply) → Fits REPLY (reply_said c.args.self.now) = λ h. subst (λ (r : Delivery). Fits REPLY (reply_said r)) (sym c.in-Points.is) h in
    ok_then _ (Fits POINTS_DELIVERY (points_reply_said c.in-Points.reply)) (Fits REPLY (reply_said c.args.self.now)) whole c.put-in-Points.ensures.fits
