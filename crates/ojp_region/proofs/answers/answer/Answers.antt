use Rattle.std.specs.Prelude.{IfOk, Result, Ok, Err}
use Rattle.ojp_values.specs.Limits.{IsWellAsk, IsWellDelivery}
use Rattle.ojp_values.specs.declared.asks.Ask.{Ask}
use Rattle.ojp_values.specs.declared.replies.Delivery.{Delivery}
use Rattle.ojp_timetable.specs.Tables.{Timetable}
use Rattle.ojp_timetable.specs.Runs.{IsWell}
use Rattle.ojp_timetable.specs.Answers.{RegionAnswers}
use Rattle.ojp_region.proofs.BoundFacts.{region_bounded}
use Rattle.ojp_region.proofs.answers.answer.Goals as goal

well : {E : Type 0} (table : Timetable) (ask : Ask) (result : Result Delivery E) → IsWell table → IsWellAsk ask
    → IfOk result (λ delivery. RegionAnswers table ask delivery) → IfOk result (λ delivery. IsWellDelivery delivery)
well table ask (Ok delivery) is_well few answered = region_bounded table ask delivery is_well few answered
well table ask (Err none) is_well few answered = tt

pub returns-clause-well : goal.returns-clause-well
returns-clause-well c few = well c.args.table.now c.args.ask.now _ c.requires.made.well few c.answer_by_kind.ensures.answered
