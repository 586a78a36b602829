-- What a region answers is of the ask's kind.
use Rattle.std.proofs.Common.{Bool, true, false, sym, subst}
use Rattle.std.specs.Prelude.{Option, Some, None, MatchBool}
use Rattle.ojp_values.specs.Texts.{Text}
use Rattle.ojp_values.specs.declared.asks.TripAsk.{TripAsk}
use Rattle.ojp_values.specs.declared.asks.MultiAsk.{MultiAsk}
use Rattle.ojp_values.specs.declared.asks.EventAsk.{EventAsk}
use Rattle.ojp_values.specs.declared.asks.PointsAsk.{PointsAsk}
use Rattle.ojp_values.specs.declared.asks.Ask.{Ask}
use Rattle.ojp_values.specs.declared.asks.Ask.TheVariants as asks
use Rattle.ojp_values.specs.declared.replies.Fault.{Fault}
use Rattle.ojp_values.specs.declared.replies.Delivery.{Delivery}
use Rattle.ojp_values.specs.declared.trips.Point.{Point}
use Rattle.ojp_timetable.specs.Tables.{Timetable, has, point_of}
use Rattle.ojp_timetable.specs.Answers.{MultiOutcome, RegionAnswers, TripOutcome, points_answer, points_reply}
use Rattle.ojp_links.specs.Replies.{IsOfKind}

trip_kind : (fault : Option Fault) (table : Timetable) (ask : TripAsk) (delivery : Delivery) → TripOutcome fault table ask delivery → IsOfKind (asks.Trip ask) delivery
trip_kind (Some fault) table ask delivery a = subst (IsOfKind (asks.Trip ask)) (sym a) tt
trip_kind None table ask delivery a = subst (IsOfKind (asks.Trip ask)) (sym a.2) tt

multi_kind : (fault : Option Fault) (table : Timetable) (ask : MultiAsk) (delivery : Delivery) → MultiOutcome fault table ask delivery → IsOfKind (asks.Multi ask) delivery
multi_kind (Some fault) table ask delivery a = subst (IsOfKind (asks.Multi ask)) (sym a) tt
multi_kind None table ask delivery a = subst (IsOfKind (asks.Multi ask)) (sym a.1) tt

events_kind : (b : Bool) (P Q : Type 0) (ask : EventAsk) (delivery : Delivery) → (P → IsOfKind (asks.Events ask) delivery) → (Q → IsOfKind (asks.Events ask) delivery) → MatchBool b P Q → IsOfKind (asks.Events ask) delivery
events_kind true P Q ask delivery f g a = f a
events_kind false P Q ask delivery f g a = g a

reply_kind : (ask : PointsAsk) (place : Text) (o : Option Point) → IsOfKind (asks.Points ask) (points_reply place o)
reply_kind ask place None = tt
reply_kind ask place (Some point) = tt

points_kind : (table : Timetable) (ask : PointsAsk) (place : Option Text) → IsOfKind (asks.Points ask) (points_answer table place)
points_kind table ask None = tt
points_kind table ask (Some place) = reply_kind ask place (point_of table place)

pub of_kind : (table : Timetable) (ask : Ask) (delivery : Delivery) → RegionAnswers table ask delivery → IsOfKind ask delivery
of_kind table (asks.Trip ask) delivery a = trip_kind _ table ask delivery a
of_kind table (asks.Multi ask) delivery a = multi_kind _ table ask delivery a
of_kind table (asks.Events ask) delivery a =
    events_kind (has table ask.stop) _ _ ask delivery (λ e. subst (IsOfKind (asks.Events ask)) (sym e.2) tt) (λ e. subst (IsOfKind (asks.Events ask)) (sym e) tt) a
of_kind table (asks.Points ask) delivery a = subst (IsOfKind (asks.Points ask)) (sym a) (points_kind table ask ask.place)
