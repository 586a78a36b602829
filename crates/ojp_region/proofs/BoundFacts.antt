-- What a region answers to an ask within the limits of a document is within them too.
use Rattle.std.proofs.Common.{◌≡◌, ℕ, ◌+◌, ◌≤◌, Bool, true, false, List, [], ◌∷◌, Option, Some, None, length, take, find, cond, refl, sym, ap, ◌∙◌, subst, arith}
use Rattle.std.specs.Prelude.{All, MatchBool}
use Rattle.std.proofs.lemmas.List.{length-take}
use Rattle.std.proofs.lemmas.List.Elements.{All-nil, All-cons}
use Rattle.ojp_values.specs.Limits.{IsBetween, IsWellAsk, IsWellDelivery, IsWellPoint, IsWellResult}
use Rattle.ojp_values.specs.Lists.{Each, Pairwise}
use Rattle.ojp_values.specs.Texts.{Text, same}
use Rattle.ojp_values.specs.declared.asks.Ask.{Ask}
use Rattle.ojp_values.specs.declared.asks.Ask.TheVariants as asks
use Rattle.ojp_values.specs.declared.asks.MultiAsk.{MultiAsk}
use Rattle.ojp_values.specs.declared.asks.EventAsk.{EventAsk}
use Rattle.ojp_values.specs.declared.trips.Event.{Event}
use Rattle.ojp_values.specs.declared.trips.Point.{Point}
use Rattle.ojp_values.specs.declared.replies.Fault.{Fault}
use Rattle.ojp_values.specs.declared.replies.Fault.TheVariants as faults
use Rattle.ojp_values.specs.declared.replies.EventsReply.TheVariants as events_replies
use Rattle.ojp_values.specs.declared.replies.TripResult.{TripResult}
use Rattle.ojp_values.specs.declared.replies.TripResult.TheVariants as results
use Rattle.ojp_values.specs.declared.replies.Delivery.{Delivery}
use Rattle.ojp_values.specs.declared.replies.Delivery.TheVariants as deliveries
use Rattle.ojp_timetable.specs.Tables.{Timetable, has, point_of}
use Rattle.ojp_timetable.specs.Runs.{IsWell}
use Rattle.ojp_timetable.specs.Answers.{AreEvents, MultiOutcome, RegionAnswers, TargetAnswered, points_answer, points_reply, targets_fault}
use Rattle.ojp_timetable.proofs.AnswerFacts.{answer_bounded}
use Rattle.ojp_timetable.proofs.LegCounts.{legs_counted}

all_each : {X : Type 0} (P : X → Type 0) (xs : List X) → Each P xs → All P xs
all_each P [] e = All-nil P
all_each P (x ∷ xs) e = All-cons P x xs e.0 (all_each P xs e.1)

-- ---- trips

target_bounded : (table : Timetable) (o : Text) (t : ℕ) (d : Text) (found : TripResult) → IsWell table → TargetAnswered table o t d found → IsWellResult found
target_bounded table o t d (results.Trip trip) well answered = legs_counted table o t d trip.end trip.legs well answered.journey
target_bounded table o t d (results.NoTrip stop) well answered = tt

targets_bounded : (table : Timetable) (o : Text) (t : ℕ) (targets : List Text) (found : List TripResult) → IsWell table
    → Pairwise (TargetAnswered table o t) targets found → (length found ≡ length targets) × Each IsWellResult found
targets_bounded table o t [] [] well pairs = (refl, tt)
targets_bounded table o t [] (f ∷ found) well pairs = absurd pairs
targets_bounded table o t (d ∷ targets) [] well pairs = absurd pairs
targets_bounded table o t (d ∷ targets) (f ∷ found) well pairs =
    let more = targets_bounded table o t targets found well pairs.1 in
    (omega (arith, more.0), (target_bounded table o t d f well pairs.0, more.1))

multi_bounded : (fault : Option Fault) (table : Timetable) (ask : MultiAsk) (delivery : Delivery) → IsWell table → IsBetween 1 256 (length ask.targets)
    → MultiOutcome fault table ask delivery → IsWellDelivery delivery
multi_bounded (Some fault) table ask delivery well many outcome = subst IsWellDelivery (sym outcome) tt
multi_bounded None table ask delivery well many outcome =
    let found = targets_bounded table ask.origin ask.start ask.targets outcome.0 well outcome.2 in
    subst IsWellDelivery (sym outcome.1) ((omega (arith, found.0, many.0), omega (arith, found.0, many.1)), all_each IsWellResult outcome.0 found.1)

-- ---- stop events

events_bounded : (known : Bool) (table : Timetable) (ask : EventAsk) (delivery : Delivery) → ask.number ≤ 100
    → MatchBool known
    ((events : List Event) × AreEvents table ask events × (delivery ≡ deliveries.Events (events_replies.Events events)))
    (delivery ≡ deliveries.Events (events_replies.Fault (faults.StopUnknown ask.stop)))
    → IsWellDelivery delivery
events_bounded true table ask delivery few answered =
    subst IsWellDelivery (sym answered.2) (omega (arith, few, ap length answered.1.cut, length-take ask.number answered.1.all))
events_bounded false table ask delivery few answered = subst IsWellDelivery (sym answered) tt

-- ---- exchange points

found_here : {X : Type 0} (P : X → Type 0) (b : Bool) (y : X) (rest : Option X) (x : X) → P y → (rest ≡ Some x → P x) → cond b (Some y) rest ≡ Some x → P x
found_here P true y rest x holds later is = let same_one : y ≡ x = cc in subst P same_one holds
found_here P false y rest x holds later is = later is

found_each : {X : Type 0} (P : X → Type 0) (p : X → Bool) (xs : List X) → Each P xs → (x : X) → find p xs ≡ Some x → P x
found_each P p [] e x is = absurd (cc)
found_each P p (y ∷ ys) e x is = found_here P (p y) y (find p ys) x e.0 (λ r. found_each P p ys e.1 x r) is

found_well : (table : Timetable) (place : Text) (point : Point) → IsWell table → point_of table place ≡ Some point → IsWellPoint point
unfolding point_of
found_well table place point well is = found_each IsWellPoint (λ (other : Point). same place other.stop) table.points well.points.bounded point is

listed_bounded : (place : Text) (found : Option Point) → ((point : Point) → found ≡ Some point → IsWellPoint point) → IsWellDelivery (points_reply place found)
listed_bounded place None well = tt
listed_bounded place (Some point) well = (omega arith, All-cons IsWellPoint point [] (well point refl) (All-nil IsWellPoint))

points_bounded : (table : Timetable) (place : Option Text) → IsWell table → IsWellDelivery (points_answer table place)
points_bounded table None well = let few = well.points.few in (omega (arith, few), all_each IsWellPoint table.points well.points.bounded)
points_bounded table (Some place) well = listed_bounded place (point_of table place) (λ point is. found_well table place point well is)

-- the answer to an ask within the limits is within them
pub region_bounded : (table : Timetable) (ask : Ask) (delivery : Delivery) → IsWell table → IsWellAsk ask → RegionAnswers table ask delivery → IsWellDelivery delivery
region_bounded table (asks.Trip ask) delivery well few answered = answer_bounded table ask delivery well answered
region_bounded table (asks.Multi ask) delivery well few answered =
    multi_bounded (targets_fault table ask.origin ask.targets) table ask delivery well few answered
region_bounded table (asks.Events ask) delivery well few answered = events_bounded (has table ask.stop) table ask delivery few.1 answered
region_bounded table (asks.Points ask) delivery well few answered = subst IsWellDelivery (sym answered) (points_bounded table ask.place well)
