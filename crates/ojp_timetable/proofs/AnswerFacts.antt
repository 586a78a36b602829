-- The answer of a region to a trip ask is within the limits of a document.
use Rattle.std.proofs.Common.{Option, Some, None, [], ◌∷◌, subst, sym}
use Rattle.ojp_values.specs.Limits.{IsWellDelivery}
use Rattle.ojp_values.specs.declared.asks.TripAsk.{TripAsk}
use Rattle.ojp_values.specs.declared.replies.Fault.{Fault}
use Rattle.ojp_values.specs.declared.replies.TripResult.{TripResult}
use Rattle.ojp_values.specs.declared.replies.TripResult.TheVariants as results
use Rattle.ojp_values.specs.declared.replies.Delivery.{Delivery}
use Rattle.ojp_values.specs.declared.replies.Delivery.TheVariants as deliveries
use Rattle.ojp_timetable.specs.Tables.{Timetable}
use Rattle.ojp_timetable.specs.Runs.{IsWell}
use Rattle.ojp_timetable.specs.Answers.{TripAnswered, TripOutcome, TargetAnswered, targets_fault, reply_of}
use Rattle.ojp_timetable.proofs.LegCounts.{legs_counted}

result_bounded : (table : Timetable) (ask : TripAsk) (result : TripResult) → IsWell table → TargetAnswered table ask.origin ask.start ask.target result → IsWellDelivery (deliveries.Trip (reply_of result))
result_bounded table ask (results.Trip trip) well answered = legs_counted table ask.origin ask.start ask.target trip.end trip.legs well answered.journey
result_bounded table ask (results.NoTrip stop) well answered = tt

outcome_bounded : (fault : Option Fault) (table : Timetable) (ask : TripAsk) (delivery : Delivery) → IsWell table → TripOutcome fault table ask delivery → IsWellDelivery delivery
outcome_bounded (Some fault) table ask delivery well outcome = subst IsWellDelivery (sym outcome) tt
outcome_bounded None table ask delivery well outcome = subst IsWellDelivery (sym outcome.2) (result_bounded table ask outcome.0 well outcome.1)

pub answer_bounded : (table : Timetable) (ask : TripAsk) (delivery : Delivery) → IsWell table → TripAnswered table ask delivery → IsWellDelivery delivery
answer_bounded table ask delivery well answered = outcome_bounded (targets_fault table ask.origin (ask.target ∷ [])) table ask delivery well answered
