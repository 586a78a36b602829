-- A delivery that was spelled is within the limits.
use Rattle.std.proofs.Common.{List, [], ◌∷◌, map, arith}
use Rattle.std.specs.List.{All, AllByRecursion}
use Rattle.std.proofs.lemmas.List.{length-map}
use Rattle.std.proofs.lemmas.List.Elements.{All-nil, All-cons}
use Rattle.ojp_values.specs.Lists.{Each}
use Rattle.ojp_values.specs.Limits.{IsWellDelivery, IsWellPoint, IsWellResult, IsWellTrip}
use Rattle.ojp_values.specs.declared.trips.Point.{Point}
use Rattle.ojp_values.specs.declared.trips.Trip.{Trip}
use Rattle.ojp_values.specs.declared.replies.Delivery.{Delivery}
use Rattle.ojp_values.specs.declared.replies.Delivery.TheVariants as deliveries
use Rattle.ojp_values.specs.declared.replies.TripReply.TheVariants as trip_replies
use Rattle.ojp_values.specs.declared.replies.TripResult.{TripResult}
use Rattle.ojp_values.specs.declared.replies.TripResult.TheVariants as results
use Rattle.ojp_values.specs.declared.replies.MultiReply.TheVariants as multi_replies
use Rattle.ojp_values.specs.declared.replies.EventsReply.TheVariants as events_replies
use Rattle.ojp_values.specs.declared.replies.PointsReply.TheVariants as points_replies
use Rattle.ojp_values.specs.declared.documents.Doc.TheVariants as docs
use Rattle.ojp_grammar.specs.Documents.{IsWell, event_said, leg_said, point_said, result_said, trip_said}
use Rattle.ojp_grammar.specs.Grammar.{MULTI_RESULT, TRIP}
use Rattle.ojp_grammar.specs.Syntax.{Fits}
use Rattle.ojp_gateway.proofs.WellFacts.{well_points}

well_trip : (trip : Trip) → Fits TRIP (trip_said trip) → IsWellTrip trip
well_trip trip fits =
    let low = fits.1.1.1.1.1.0 in
    let high = fits.1.1.1.1.1.1 in
    (omega (arith, low, length-map trip.legs leg_said), omega (arith, high, length-map trip.legs leg_said))

well_result : (result : TripResult) → Fits MULTI_RESULT (result_said result) → IsWellResult result
well_result (results.Trip trip) fits = well_trip trip fits.1.0
well_result (results.NoTrip stop) fits = tt

well_results : (given : List TripResult) → AllByRecursion (Fits MULTI_RESULT) (map result_said given) → All IsWellResult given
well_results [] fits = All-nil IsWellResult
well_results (r ∷ given) fits = All-cons IsWellResult r given (well_result r fits.0) (well_results given fits.1)

all_points : (points : List Point) → Each IsWellPoint points → All IsWellPoint points
all_points [] each = All-nil IsWellPoint
all_points (p ∷ points) each = All-cons IsWellPoint p points each.0 (all_points points each.1)

pub well_delivery : (delivery : Delivery) → IsWell (docs.Delivery delivery) → IsWellDelivery delivery
unfolding IsWell
well_delivery (deliveries.Trip (trip_replies.Trip trip)) fits = well_trip trip fits.1.0.1.0.1.0.1.0.1.0
well_delivery (deliveries.Trip (trip_replies.Fault fault)) fits = tt
well_delivery (deliveries.Multi (multi_replies.Results given)) fits =
    let low = fits.1.0.1.0.1.0.1.0 in
    let high = fits.1.0.1.0.1.0.1.1 in
    ((omega (arith, low, length-map given result_said), omega (arith, high, length-map given result_said)), well_results given fits.1.0.1.0.1.0.1.2)
well_delivery (deliveries.Multi (multi_replies.Fault fault)) fits = tt
well_delivery (deliveries.Events (events_replies.Events given)) fits =
    let high = fits.1.0.1.0.1.0.1.1 in omega (arith, high, length-map given event_said)
well_delivery (deliveries.Events (events_replies.Fault fault)) fits = tt
well_delivery (deliveries.Points (points_replies.Points given)) fits =
    let high = fits.1.0.1.0.1.0.1.1 in (omega (arith, high, length-map given point_said), all_points given (well_points given fits))
well_delivery (deliveries.Points (points_replies.Fault fault)) fits = tt
