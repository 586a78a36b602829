-- What the results of a fitting reply are.
use Rattle.std.proofs.Common.{◌≡◌, List, Option, Some, None, subst}
use Rattle.ojp_values.specs.Lists.{Pairwise}
use Rattle.ojp_values.specs.declared.asks.MultiAsk.{MultiAsk}
use Rattle.ojp_values.specs.declared.replies.Fault.{Fault}
use Rattle.ojp_values.specs.declared.replies.TripResult.{TripResult}
use Rattle.ojp_values.specs.declared.replies.MultiReply.TheVariants as multi_replies
use Rattle.ojp_values.specs.declared.replies.Delivery.TheVariants as deliveries
use Rattle.ojp_timetable.specs.Tables.{Timetable}
use Rattle.ojp_timetable.specs.Answers.{TargetAnswered, MultiOutcome}

-- the results of a fitting reply are those that the region answers
pub results_of :
    (table : Timetable) (ask : MultiAsk) (found : List TripResult) (fault : Option Fault)
    → MultiOutcome fault table ask (deliveries.Multi (multi_replies.Results found)) → Pairwise (TargetAnswered table ask.origin ask.start) ask.targets found
results_of table ask found (Some fault) outcome = absurd (cc)
results_of table ask found None (own, is, pairs) =
    let same_results : own ≡ found = cc in
    subst (Pairwise (TargetAnswered table ask.origin ask.start) ask.targets) same_results pairs
