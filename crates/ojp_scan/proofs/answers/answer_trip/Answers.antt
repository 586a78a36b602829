use Rattle.std.proofs.Common.{◌≡◌, ◌∷◌, [], refl, sym, ◌∙◌, subst}
use Rattle.std.specs.Prelude.{Option, None}
use Rattle.ojp_values.specs.declared.replies.Fault.{Fault}
use Rattle.ojp_values.specs.declared.replies.Fault.TheVariants as faults
use Rattle.ojp_values.specs.declared.replies.TripReply.TheVariants as trip_replies
use Rattle.ojp_values.specs.declared.replies.TripResult.TheVariants as results
use Rattle.ojp_values.specs.declared.replies.Delivery.TheVariants as deliveries
use Rattle.ojp_timetable.specs.Answers.{TargetAnswered, TripOutcome, targets_fault}
use Rattle.ojp_scan.proofs.answers.answer_trip.Goals as goal

pub returns-in-NoTrip-clause-answer : goal.returns-in-NoTrip-clause-answer
returns-in-NoTrip-clause-answer c =
    let table = c.args.table.now in
    let ask = c.args.ask.now in
    let none : targets_fault table ask.origin (ask.target ∷ []) ≡ None = sym c.trip_fault.ensures ∙ c.in_default.is in
    let found : TargetAnswered table ask.origin ask.start ask.target (results.NoTrip c.in-NoTrip.stop) =
    subst (TargetAnswered table ask.origin ask.start ask.target) c.in-NoTrip.is (c.in_ok-trip.ensures ask.origin ask.start c.from.ensures) in
    subst (λ (fault : Option Fault). TripOutcome fault table ask (deliveries.Trip (trip_replies.Fault (faults.NoTrip c.in-NoTrip.stop)))) (sym none)
    (results.NoTrip c.in-NoTrip.stop, found, refl)
