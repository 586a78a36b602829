-- What a region answers fits, where it is sure of the ask.
use Rattle.std.proofs.Common.{◌≡◌, ℕ, zero, suc, ◌+◌, ◌<◌, ◌≤◌, inl, inr, Bool, true, false, cond, List, [], ◌∷◌, length, take, refl, sym, ap, subst, arith, length-take}
use Rattle.std.specs.Prelude.{Option, Some, None, MatchBool, find}
use Rattle.ojp_values.proofs.ListFacts.{each_at}
use Rattle.ojp_values.proofs.EachFacts.{each_of, each_take}
use Rattle.ojp_values.specs.Lists.{Among, Each, IsRising, Pairwise}
use Rattle.ojp_values.specs.Texts.{Text, same}
use Rattle.ojp_values.specs.declared.asks.TripAsk.{TripAsk}
use Rattle.ojp_values.specs.declared.asks.MultiAsk.{MultiAsk}
use Rattle.ojp_values.specs.declared.asks.EventAsk.{EventAsk}
use Rattle.ojp_values.specs.declared.asks.Ask.{Ask}
use Rattle.ojp_values.specs.declared.asks.Ask.TheVariants as asks
use Rattle.ojp_values.specs.declared.replies.Fault.{Fault}
use Rattle.ojp_values.specs.declared.replies.TripResult.{TripResult}
use Rattle.ojp_values.specs.declared.replies.TripResult.TheVariants as results
use Rattle.ojp_values.specs.declared.replies.Delivery.{Delivery}
use Rattle.ojp_values.specs.declared.trips.Event.{Event}
use Rattle.ojp_values.specs.declared.trips.Leg.{Leg}
use Rattle.ojp_values.specs.declared.trips.Point.{Point}
use Rattle.ojp_values.specs.declared.trips.Trip.{Trip}
use Rattle.ojp_timetable.specs.Tables.{Timetable, has, point_of}
use Rattle.ojp_timetable.specs.Runs.{IsWell, day_long}
use Rattle.ojp_timetable.specs.Journeys.{AllFollow, Follows, HasTime, Leads, Standing, alighted}
use Rattle.ojp_timetable.specs.Points.{IsPointOf}
use Rattle.ojp_timetable.specs.Answers.{AreEvents, IsEarliestTrip, IsEvent, MultiOutcome, RegionAnswers, TargetAnswered, TripOutcome, event_lt, points_answer, points_reply, reply_of}
use Rattle.ojp_timetable.proofs.LegCounts.{change_takes_time}
use Rattle.ojp_timetable.proofs.RideFacts.{leg_forward}
use Rattle.ojp_timetable.proofs.TextFacts.{same_is}
use Rattle.ojp_links.specs.Fits.{Fits, FitsEvent, FitsNext, FitsResult, FitsTrip, FitsTripReply}
use Rattle.ojp_links.specs.Sure.{IsSure}

-- ---- lists

module _ {X : Type 0} where
  chosen : (p : X → Bool) (b : Bool) (x y : X) (rest : Option X) (xs : List X) → p x ≡ b → cond b (Some x) rest ≡ Some y → (rest ≡ Some y → Among y xs × (p y ≡ true)) → Among y (x ∷ xs) × (p y ≡ true)
  chosen p true x y rest xs passes e later =
      let is : x ≡ y = cc in
      (inl (sym is), subst (λ (z : X). p z ≡ true) is passes)
  chosen p false x y rest xs passes e later = let found = later e in (inr found.0, found.1)

  -- what is found is among the others, and passes
  found : (p : X → Bool) (xs : List X) (y : X) → find p xs ≡ Some y → Among y xs × (p y ≡ true)
  found p [] y e = absurd (cc)
  found p (x ∷ xs) y e = chosen p (p x) x y (find p xs) xs refl e (found p xs y)

  rising_take : (before : X → X → Bool) (n : ℕ) (xs : List X) → IsRising before xs → IsRising before (take n xs)
  rising_take before zero xs h = tt
  rising_take before (suc n) [] h = tt
  rising_take before (suc n) (x ∷ xs) h = (each_take (λ y. before x y ≡ true) n xs h.0, rising_take before n xs h.1)

pairwise_map : {X Y : Type 0} (R S : X → Y → Type 0) → ((x : X) (y : Y) → R x y → S x y) → (xs : List X) (ys : List Y) → Pairwise R xs ys → Pairwise S xs ys
pairwise_map R S f [] [] h = tt
pairwise_map R S f [] (y ∷ ys) h = absurd h
pairwise_map R S f (x ∷ xs) [] h = absurd h
pairwise_map R S f (x ∷ xs) (y ∷ ys) h = (f x y h.0, pairwise_map R S f xs ys h.1)

-- ---- trips

follow_fits : (table : Timetable) (at : Standing) (legs : List Leg) → IsWell table → AllFollow (Follows table) at legs → AllFollow (FitsNext table.region) at legs
follow_fits table at [] well follow = tt
follow_fits table at (leg ∷ legs) well follow =
    let time : HasTime table at leg = follow.0.2 in
    let takes : 1 ≤ time.0 = change_takes_time table at.stop time.0 well time.1 in
    let later : at.moment < leg.departs = omega (arith, time.2) in
    ((ap (λ (l : Leg). l.region) follow.0.0.is, follow.0.1, later, leg_forward table leg well follow.0.0), follow_fits table (alighted leg) legs well follow.1)

trip_fits : (table : Timetable) (o : Text) (t : ℕ) (d : Text) (trip : Trip) → IsWell table → IsEarliestTrip table o t d trip → FitsTrip table.region o t d trip
trip_fits table o t d trip well it =
    let leads : Leads table o t (it.first ∷ it.rest) d trip.end = subst (λ (legs : List Leg). Leads table o t legs d trip.end) it.totals.legs_are it.journey.2 in
    record {
      first = it.first;
      rest = it.rest;
      totals = it.totals;
      of_region = ap (λ (l : Leg). l.region) leads.0.is;
      boards = leads.1;
      leaves = leads.2;
      rides = leg_forward table it.first well leads.0;
      follow = follow_fits table (alighted it.first) it.rest well leads.3;
      ends = leads.4;
      within = it.journey.1;
    }

result_fits : (table : Timetable) (o : Text) (t : ℕ) (d : Text) (outcome : TripResult) → IsWell table → TargetAnswered table o t d outcome → FitsResult table.region o t d outcome
result_fits table o t d (results.Trip trip) well it = trip_fits table o t d trip well it
result_fits table o t d (results.NoTrip stop) well it = it.0

reply_fits : (table : Timetable) (ask : TripAsk) (outcome : TripResult) → IsWell table → TargetAnswered table ask.origin ask.start ask.target outcome → FitsTripReply table.region ask (reply_of outcome)
reply_fits table ask (results.Trip trip) well it = trip_fits table ask.origin ask.start ask.target trip well it
reply_fits table ask (results.NoTrip stop) well it = it.0

trip_case : (fault : Option Fault) (table : Timetable) (ask : TripAsk) (delivery : Delivery) → IsWell table → fault ≡ None → TripOutcome fault table ask delivery → Fits table.region (asks.Trip ask) delivery
trip_case (Some fault) table ask delivery well none a = absurd (cc)
trip_case None table ask delivery well none a = subst (Fits table.region (asks.Trip ask)) (sym a.2) (reply_fits table ask a.0 well a.1)

multi_case : (fault : Option Fault) (table : Timetable) (ask : MultiAsk) (delivery : Delivery) → IsWell table → fault ≡ None → MultiOutcome fault table ask delivery → Fits table.region (asks.Multi ask) delivery
multi_case (Some fault) table ask delivery well none a = absurd (cc)
multi_case None table ask delivery well none a =
    subst (Fits table.region (asks.Multi ask)) (sym a.1)
    (pairwise_map (TargetAnswered table ask.origin ask.start) (FitsResult table.region ask.origin ask.start) (λ d outcome h. result_fits table ask.origin ask.start d outcome well h) ask.targets a.0 a.2)

-- ---- events

event_fits : (table : Timetable) (ask : EventAsk) (event : Event) → IsEvent table ask event → FitsEvent table.region ask event
event_fits table ask event it =
    let at = ap (λ (e : Event). e.moment) it.is in
    record {
      of_region = ap (λ (e : Event). e.region) it.is;
      stop = ap (λ (e : Event). e.stop) it.is;
      from = subst (λ (n : ℕ). ask.start ≤ n) (sym at) it.from;
      to = subst (λ (n : ℕ). n ≤ ask.start + day_long) (sym at) it.to;
    }

few : (n : ℕ) (events : List Event) → length (take n events) ≤ n
few n events = omega (arith, length-take n events)

events_fit : (table : Timetable) (ask : EventAsk) (events : List Event) → AreEvents table ask events
    → (length events ≤ ask.number) × Each (FitsEvent table.region ask) events × IsRising event_lt events
events_fit table ask events it =
    let all = each_of (FitsEvent table.region ask) it.all (λ event a. event_fits table ask event ((it.just_these event).0 a)) in
    subst (λ (es : List Event). (length es ≤ ask.number) × Each (FitsEvent table.region ask) es × IsRising event_lt es) (sym it.cut)
    (few ask.number it.all, each_take (FitsEvent table.region ask) ask.number it.all all, rising_take event_lt ask.number it.all it.rising)

events_case : (b : Bool) (P Q F : Type 0) → (P → F) → (Q → F) → MatchBool b P Q → F
events_case true P Q F f g a = f a
events_case false P Q F f g a = g a

-- ---- points

place_fits : (region place : Text) (o : Option Point) → ((point : Point) → o ≡ Some point → (point.stop ≡ place) × IsPointOf region point) → Fits region (asks.Points (record { place = Some place })) (points_reply place o)
place_fits region place None h = refl
place_fits region place (Some point) h = let it = h point refl in (point, refl, it.0, it.1)

points_fit : (table : Timetable) (place : Option Text) → IsWell table → Fits table.region (asks.Points (record { place = place })) (points_answer table place)
unfolding point_of
points_fit table None well = (well.points.few, well.points.each, well.points.rising)
points_fit table (Some place) well = place_fits table.region place (point_of table place) (λ point e.
    let at = found (λ (p : Point). same place p.stop) table.points point e in
    (sym (same_is place point.stop at.1), each_at (IsPointOf table.region) point table.points well.points.each at.0))

-- ---- all four

pub answers_fit : (table : Timetable) (ask : Ask) (delivery : Delivery) → IsWell table → IsSure table ask → RegionAnswers table ask delivery → Fits table.region ask delivery
answers_fit table (asks.Trip ask) delivery well sure a = trip_case _ table ask delivery well sure a
answers_fit table (asks.Multi ask) delivery well sure a = multi_case _ table ask delivery well sure a
answers_fit table (asks.Events ask) delivery well sure a =
    events_case (has table ask.stop) _ _ (Fits table.region (asks.Events ask) delivery)
    (λ e. subst (Fits table.region (asks.Events ask)) (sym e.2) (events_fit table ask e.0 e.1))
    (λ e. subst (Fits table.region (asks.Events ask)) (sym e) refl)
    a
answers_fit table (asks.Points ask) delivery well sure a = subst (Fits table.region (asks.Points ask)) (sym a) (points_fit table ask.place well)
