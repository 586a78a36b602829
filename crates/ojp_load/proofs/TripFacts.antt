-- What a delivery tells of an ask for a trip.
use Rattle.std.proofs.Common.{◌≡◌, inl, inr, ℕ, ◌-◌, ◌≤◌, List, [], ◌∷◌, refl, sym, subst, arith}
use Rattle.std.specs.Prelude.{Some, None}
use Rattle.ojp_values.specs.Texts.{Text}
use Rattle.ojp_values.specs.declared.asks.TripAsk.{TripAsk}
use Rattle.ojp_values.specs.declared.asks.Ask.TheVariants as asks
use Rattle.ojp_values.specs.declared.trips.Leg.{Leg}
use Rattle.ojp_values.specs.declared.trips.Trip.{Trip}
use Rattle.ojp_values.specs.declared.replies.Fault.{Fault}
use Rattle.ojp_values.specs.declared.replies.Fault.TheVariants as faults
use Rattle.ojp_values.specs.declared.replies.TripReply.{TripReply}
use Rattle.ojp_values.specs.declared.replies.TripReply.TheVariants as trip_replies
use Rattle.ojp_values.specs.declared.replies.Delivery.{Delivery}
use Rattle.ojp_values.specs.declared.replies.Delivery.TheVariants as deliveries
use Rattle.ojp_timetable.specs.GatewayAnswers.{EndsAreKnown, GatewayAnswers, IsPlace, TripByTables}
use Rattle.ojp_timetable.specs.Journeys.{United}
use Rattle.ojp_timetable.specs.Tables.{Timetable}
use Rattle.ojp_load.specs.Asking.{IsToldOf}

in_day : (tables : List Timetable) (o : Text) (t : ℕ) (d : Text) (a : ℕ) (legs : List Leg) → United tables o t d a legs → a - t ≤ 86400
in_day tables o t d a [] h = absurd h
in_day tables o t d a (leg ∷ legs) h = omega (arith, h.1)

by_trip : (tables : List Timetable) (ask : TripAsk) (trip : Trip) → TripByTables tables ask (trip_replies.Trip trip) → IsToldOf tables ask (Some (trip.end - ask.start))
by_trip tables ask trip (known, right) = record {
  told_of = (trip.end, ((trip.legs, right.journey), right.earliest), refl);
  in_day = in_day tables ask.origin ask.start ask.target trip.end trip.legs right.journey;
}

by_fault : (tables : List Timetable) (ask : TripAsk) (fault : Fault) → EndsAreKnown tables ask → TripByTables tables ask (trip_replies.Fault fault) → IsToldOf tables ask None
by_fault tables ask (faults.SameStop stop) known h = absurd (known.differ h.1)
by_fault tables ask (faults.StopUnknown stop) known (differ, unknown, inl e) = absurd (unknown (subst (IsPlace tables) (sym e) known.origin))
by_fault tables ask (faults.StopUnknown stop) known (differ, unknown, inr (e, origin)) = absurd (unknown (subst (IsPlace tables) (sym e) known.target))
by_fault tables ask (faults.NoTrip stop) known h = record { told_of = h.2; in_day = tt }
by_fault tables ask (faults.RegionFailed region) known h = absurd h
by_fault tables ask faults.NotServed known h = absurd h

pub told_reply : (tables : List Timetable) (ask : TripAsk) (delivery : Delivery) (reply : TripReply) → delivery ≡ deliveries.Trip reply → GatewayAnswers tables (asks.Trip ask) delivery → TripByTables tables ask reply
told_reply tables ask delivery reply is (other, e, by) =
    let same : other ≡ reply = cc in
    subst (TripByTables tables ask) same by

pub told_trip : (tables : List Timetable) (ask : TripAsk) (reply : TripReply) (trip : Trip) → reply ≡ trip_replies.Trip trip → TripByTables tables ask reply → IsToldOf tables ask (Some (trip.end - ask.start))
told_trip tables ask reply trip is by = by_trip tables ask trip (subst (TripByTables tables ask) is by)

pub told_fault : (tables : List Timetable) (ask : TripAsk) (reply : TripReply) (fault : Fault) → reply ≡ trip_replies.Fault fault → EndsAreKnown tables ask → TripByTables tables ask reply → IsToldOf tables ask None
told_fault tables ask reply fault is known by = by_fault tables ask fault known (subst (TripByTables tables ask) is by)
