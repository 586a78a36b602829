-- What the gateway answers is within the limits of a document.
use Rattle.std.proofs.Common.{◌≡◌, ◌≢◌, ℕ, ◌+◌, ◌≤◌, List, [], ◌∷◌, length, filter, Option, Some, None, cond, Bool, true, false, refl, sym, ◌∙◌, ap, subst, arith}
use Rattle.std.specs.List.{flat_map}
use Rattle.std.proofs.lemmas.List.{length-append, length-map}
use Rattle.ojp_values.specs.Limits.{IsWellDelivery, IsWellPoint, IsWellTrip}
use Rattle.ojp_values.specs.Lists.{Each}
use Rattle.ojp_values.specs.Texts.{Text, same}
use Rattle.ojp_values.specs.declared.asks.TripAsk.{TripAsk}
use Rattle.ojp_values.specs.declared.trips.Leg.{Leg}
use Rattle.ojp_values.specs.declared.trips.Point.{Point}
use Rattle.ojp_values.specs.declared.trips.Trip.{Trip}
use Rattle.ojp_values.specs.declared.replies.TripResult.TheVariants as results
use Rattle.ojp_values.specs.declared.replies.TripReply.{TripReply}
use Rattle.ojp_values.specs.declared.replies.TripReply.TheVariants as trip_replies
use Rattle.ojp_values.specs.declared.replies.MultiReply.TheVariants as multi_replies
use Rattle.ojp_values.specs.declared.replies.Delivery.{Delivery}
use Rattle.ojp_values.specs.declared.replies.Delivery.TheVariants as deliveries
use Rattle.ojp_timetable.specs.Journeys.{Standing, reached}
use Rattle.ojp_links.specs.Fits.{FitsResult}
use Rattle.ojp_links.proofs.RisingFacts.{all_of_each}
use Rattle.ojp_exchange.specs.Book.{Book, HasChange}
use Rattle.ojp_exchange.specs.Kept.{IsWellBook, points_at, spot_of}
use Rattle.ojp_records.specs.declared.queries.Query.{Query}
use Rattle.ojp_records.specs.declared.queries.Query.TheVariants.{Reach}
use Rattle.ojp_records.specs.declared.queries.Entry.{Entry}
use Rattle.ojp_records.specs.Told.{ReplyFits}
use Rattle.ojp_records.specs.Pairs.{ends_towards}
use Rattle.ojp_records.specs.Chains.{Chain, ChainOn, IsTripOf, legs_of}
use Rattle.ojp_records.proofs.Chained.{fits_reach}
use Rattle.ojp_records.proofs.ChainFacts.{AnswersSome, pairwise_at}
use Rattle.ojp_join.specs.Outcomes.{Ended, IsJoined}
use Rattle.ojp_join.proofs.BackFacts.{few_legs}
use Rattle.ojp_turns.proofs.BoundFacts.{spots_few}
use Rattle.ojp_gateway.specs.Answers.{PointsByBook, delivery_of_points}

-- ---- how many legs fit between two moments

module _ (book : Book) (ask : TripAsk) (told : List Entry) (well : IsWellBook book) where
  fits_of : (region stop : Text) (start : ℕ) (trip : Trip) → IsTripOf book ask told region stop start trip → AnswersSome (FitsResult region stop start) (results.Trip trip)
  fits_of region stop start trip it =
      let by_reply : ReplyFits book ask it.entry.query (Some (deliveries.Multi (multi_replies.Results it.found))) = subst (ReplyFits book ask it.entry.query) it.reply it.fits in
      let by_query : ReplyFits book ask (Reach region stop start) (Some (deliveries.Multi (multi_replies.Results it.found))) =
      subst (λ (q : Query). ReplyFits book ask q (Some (deliveries.Multi (multi_replies.Results it.found)))) it.query by_reply in
      pairwise_at (FitsResult region stop start) (ends_towards book ask.target stop region) it.found (results.Trip trip) by_query it.listed

  takes_time : (stop left right : Text) (change : ℕ) → HasChange book stop left right change → 1 ≤ change
  takes_time stop left right change has = omega (arith, (well.link_times has.link has.listed).0, has.time)

  few_on : (at : Standing) (trips : List Trip) (a : ℕ) → ChainOn book ask told at trips a → length (flat_map legs_of trips) + at.moment ≤ a
  few_on at [] a on = omega (arith, on.1)
  few_on at (trip ∷ trips) a (next, on, more) =
      let fits : AnswersSome (FitsResult next at.stop (at.moment + on.change)) (results.Trip trip) = fits_of next at.stop (at.moment + on.change) trip on.of_record in
      let here = few_legs next at.stop (at.moment + on.change) fits.target trip fits.answers in
      let there : (reached at trip.legs).moment ≡ trip.end = ap (λ (s : Standing). s.moment) (fits_reach next at.stop (at.moment + on.change) fits.target trip fits.answers at) in
      let rest = few_on (reached at trip.legs) trips a more in
      omega (arith, here, there, rest, takes_time at.stop at.region next on.change on.has, length-append trip.legs (flat_map legs_of trips))

  few : (trips : List Trip) (a : ℕ) → Chain book ask told trips a → length (flat_map legs_of trips) + ask.start ≤ a + 1
  few [] a chain = absurd chain
  few (trip ∷ trips) a (region, first, more) =
      let fits : AnswersSome (FitsResult region ask.origin ask.start) (results.Trip trip) = fits_of region ask.origin ask.start trip first in
      let at : Standing = record { region = region; stop = ask.origin; moment = ask.start } in
      let here = few_legs region ask.origin ask.start fits.target trip fits.answers in
      let there : (reached at trip.legs).moment ≡ trip.end = ap (λ (s : Standing). s.moment) (fits_reach region ask.origin ask.start fits.target trip fits.answers at) in
      let rest = few_on (reached at trip.legs) trips a more in
      omega (arith, here, there, rest, length-append trip.legs (flat_map legs_of trips))

  some_first : (legs : List Leg) → legs ≢ [] → 1 ≤ length legs
  some_first [] some = absurd (some refl)
  some_first (leg ∷ legs) some = omega arith

  some : (trips : List Trip) (a : ℕ) → Chain book ask told trips a → 1 ≤ length (flat_map legs_of trips)
  some [] a chain = absurd chain
  some (trip ∷ trips) a (region, first, more) = omega (arith, some_first trip.legs first.rides, length-append trip.legs (flat_map legs_of trips))

  pub well_trip : (trip : Trip) → IsJoined book ask told trip → IsWellTrip trip
  well_trip trip joined =
      let legs : length trip.legs ≡ length (flat_map legs_of joined.chained.trips) = ap length joined.chained.joined in (
        omega (arith, legs, some joined.chained.trips trip.end joined.chained.chain),
        omega (arith, legs, few joined.chained.trips trip.end joined.chained.chain, joined.chained.within),
      )

  pub well_reply : (reply : TripReply) → Ended book ask told reply → IsWellDelivery (deliveries.Trip reply)
  well_reply (trip_replies.Trip trip) ended = well_trip trip ended.ends_by.1
  well_reply (trip_replies.Fault fault) ended = tt

-- ---- points

shorter : (p : Point → Bool) (points : List Point) → length (filter p points) ≤ length points
shorter p [] = omega arith
shorter p (x ∷ points) = go (p x) (shorter p points)
  where
    go : (b : Bool) → length (filter p points) ≤ length points → length (cond b (x ∷ filter p points) (filter p points)) ≤ length (x ∷ points)
    go true less = omega (arith, less)
    go false less = omega (arith, less)

each_kept : (P : Point → Type 0) (p : Point → Bool) (points : List Point) → Each P points → Each P (filter p points)
each_kept P p [] all = tt
each_kept P p (x ∷ points) all = go (p x) (each_kept P p points all.1)
  where
    go : (b : Bool) → Each P (filter p points) → Each P (cond b (x ∷ filter p points) (filter p points))
    go true kept = (all.0, kept)
    go false kept = kept

well_list : (place : Option Text) (found : List Point) → length found ≤ 65535 → Each IsWellPoint found → IsWellDelivery (delivery_of_points place found)
well_list None found short all = (short, all_of_each IsWellPoint found all)
well_list (Some stop) [] short all = tt
well_list (Some stop) (p ∷ found) short all = (short, all_of_each IsWellPoint (p ∷ found) all)

kept_points : (place : Option Text) (points : List Point) → Each IsWellPoint points → (length (points_at place points) ≤ length points) × Each IsWellPoint (points_at place points)
kept_points None points all = (omega arith, all)
kept_points (Some stop) points all = (shorter (λ (point : Point). same stop point.stop) points, each_kept IsWellPoint (λ (point : Point). same stop point.stop) points all)

pub points_well : (book : Book) (place : Option Text) (delivery : Delivery) → IsWellBook book → PointsByBook book place delivery → IsWellDelivery delivery
points_well book place delivery well (found, (points, are, is), e) =
    let spots : length points ≡ length book.spots = sym (length-map points spot_of) ∙ ap (λ (b : Book). length b.spots) are.are in
    let kept = kept_points place points are.kept.bounded in
    let short : length found ≤ 65535 = omega (arith, ap length is, kept.0, spots, spots_few book well) in
    subst IsWellDelivery (sym e) (well_list place found short (subst (Each IsWellPoint) (sym is) kept.1))
