-- Events, points and neighbours stand in an order: what is before another is before all that the other is before.
use Rattle.std.specs.Prelude.{◌≡◌, ◌==◌, nat_lt, true}
use Rattle.ojp_values.specs.Texts.{same, text_lt}
use Rattle.ojp_values.specs.declared.trips.Event.{Event}
use Rattle.ojp_values.specs.declared.trips.Neighbour.{Neighbour}
use Rattle.ojp_values.specs.declared.trips.Point.{Point}
use Rattle.ojp_timetable.specs.Answers.{event_lt}
use Rattle.ojp_timetable.specs.Points.{neighbour_lt, point_lt}
use Rattle.ojp_timetable.proofs.Orders.{number_order, text_order, then_order}
use Rattle.ojp_timetable.proofs.PointOrder.{lt_carried}

pub events_carried : (x y z : Event) → event_lt x y ≡ true → event_lt y z ≡ true → event_lt x z ≡ true
unfolding event_lt
events_carried =
    (then_order (λ (x : Event) (y : Event). nat_lt x.moment y.moment) (λ (x : Event) (y : Event). x.moment == y.moment) _ _ (number_order (λ (x : Event). x.moment))
    (then_order (λ (x : Event) (y : Event). text_lt x.region y.region) (λ (x : Event) (y : Event). same x.region y.region) _ _ (text_order (λ (x : Event). x.region))
    (then_order (λ (x : Event) (y : Event). text_lt x.journey y.journey) (λ (x : Event) (y : Event). same x.journey y.journey) _ _ (text_order (λ (x : Event). x.journey))
    (then_order (λ (x : Event) (y : Event). nat_lt x.day y.day) (λ (x : Event) (y : Event). x.day == y.day) _ _ (number_order (λ (x : Event). x.day))
    (number_order (λ (x : Event). x.order)))))).carried

pub points_carried : (x y z : Point) → point_lt x y ≡ true → point_lt y z ≡ true → point_lt x z ≡ true
points_carried x y z h k = lt_carried x.stop y.stop z.stop h k

pub neighbours_carried : (x y z : Neighbour) → neighbour_lt x y ≡ true → neighbour_lt y z ≡ true → neighbour_lt x z ≡ true
neighbours_carried x y z h k = lt_carried x.code y.code z.code h k
