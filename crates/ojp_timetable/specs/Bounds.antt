-- What a region answers is within the limits of a document.
use Rattle.ojp_values.specs.Limits.{IsWellDelivery}
use Rattle.ojp_values.specs.declared.asks.TripAsk.{TripAsk}
use Rattle.ojp_values.specs.declared.replies.Delivery.{Delivery}
use Rattle.ojp_timetable.specs.Tables.{Timetable}
use Rattle.ojp_timetable.specs.Runs.{IsWell}
use Rattle.ojp_timetable.specs.Answers.{TripAnswered}

-- the answer to a trip ask is within the limits of a document
abbrev pub AnswersAreBounded : Type 0
AnswersAreBounded =
    (table : Timetable) (ask : TripAsk) (delivery : Delivery) → IsWell table → TripAnswered table ask delivery → IsWellDelivery delivery
