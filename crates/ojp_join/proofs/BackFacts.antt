-- Going back through a record: each trip that one must have ridden is there, and a chain grows at its front.
use Rattle.std.proofs.Common.{◌≡◌, ◌≢◌, ℕ, zero, suc, ◌+◌, ◌-◌, ◌<◌, ◌≤◌, ◌⊎◌, List, [], ◌∷◌, ◌++◌, Option, Some, None, take, length, reverse, slice_get, refl, sym, ◌∙◌, ap, subst, inl, inr, arith}
use Rattle.std.specs.List.{flat_map}
use Rattle.std.proofs.lemmas.List.{append_assoc, append-nil, length-append, length-reverse}
use Rattle.std.proofs.lemmas.Option.{none-some, same_Some, slice_get_within}
use Rattle.ojp_values.specs.Lists.{Among, Each, Pairwise}
use Rattle.ojp_values.specs.Texts.{Text}
use Rattle.ojp_values.specs.declared.asks.TripAsk.{TripAsk}
use Rattle.ojp_values.specs.declared.trips.Leg.{Leg}
use Rattle.ojp_values.specs.declared.trips.Trip.{Trip}
use Rattle.ojp_values.specs.declared.replies.TripResult.{TripResult}
use Rattle.ojp_values.specs.declared.replies.TripResult.TheVariants as results
use Rattle.ojp_values.specs.declared.replies.MultiReply.TheVariants as multi_replies
use Rattle.ojp_values.specs.declared.replies.Delivery.{Delivery}
use Rattle.ojp_values.specs.declared.replies.Delivery.TheVariants as deliveries
use Rattle.ojp_values.proofs.ListFacts.{each_at}
use Rattle.ojp_timetable.specs.Runs.{day_long}
use Rattle.ojp_timetable.specs.Journeys.{Standing, alighted, reached, AllFollow}
use Rattle.ojp_timetable.proofs.ReadFacts.{among_at, at_among}
use Rattle.ojp_links.specs.Fits.{FitsNext, FitsResult, FitsTrip}
use Rattle.ojp_exchange.specs.Book.{Book, HasChange}
use Rattle.ojp_exchange.specs.Kept.{IsWellBook}
use Rattle.ojp_records.specs.declared.queries.Query.{Query}
use Rattle.ojp_records.specs.declared.queries.Query.TheVariants.{Check, Reach}
use Rattle.ojp_records.specs.declared.queries.Entry.{Entry}
use Rattle.ojp_records.specs.Starts.{Arrival, arrivals, arrivals_heard, best}
use Rattle.ojp_records.specs.Pairs.{ends_towards}
use Rattle.ojp_records.specs.Told.{EntryFits, IsOpenQuery, IsRecord, ReplyFits, ToldInTurn}
use Rattle.ojp_records.specs.Chains.{Chain, ChainOn, Chained, IsTripOf, legs_of}
use Rattle.ojp_records.proofs.Chained.{ListedTrip, fits_forward, fits_reach, listed_trip, some_legs}
use Rattle.ojp_records.proofs.ChainFacts.{AnswersSome, pairwise_at}
use Rattle.ojp_records.proofs.StartFacts.{BestIs, HeardFrom, IsAfter, IsAsked, best_is, heard_from_entry, known_start_back}
use Rattle.ojp_records.proofs.WantedFacts.{open_start}
use Rattle.ojp_join.specs.declared.rides.Ride.{Ride}
use Rattle.ojp_join.specs.declared.rides.Need.{Need}
use Rattle.ojp_join.specs.Rides.{AreJoined, EndsAt, HasNoRide, IsInTime, IsRide, Meets, results_in}

-- ---- the trips of entries

-- a result stands in a multi reply
result_reply : (reply : Option Delivery) (result : TripResult) → Among result (results_in reply) → (found : List TripResult) × (reply ≡ Some (deliveries.Multi (multi_replies.Results found))) × Among result found
result_reply None result a = absurd a
result_reply (Some (deliveries.Multi (multi_replies.Results found))) result a = (found, refl, a)
result_reply (Some (deliveries.Multi (multi_replies.Fault fault))) result a = absurd a
result_reply (Some (deliveries.Trip reply)) result a = absurd a
result_reply (Some (deliveries.Events reply)) result a = absurd a
result_reply (Some (deliveries.Points reply)) result a = absurd a

-- a trip of the record fits its query
pub record FitsThere (book : Book) (ask : TripAsk) (told : List Entry) (region stop : Text) (start : ℕ) (trip : Trip) : Type 0 where
  pub target : Text
  pub fits : FitsTrip region stop start target trip
  pub of_record : IsTripOf book ask told region stop start trip

pub ride_fits : (book : Book) (ask : TripAsk) (told : List Entry) (ride : Ride) (trip : Trip) → IsRecord book ask told → IsRide told ride trip → FitsThere book ask told ride.region ride.stop ride.start trip
ride_fits book ask told ride trip well it =
    let own : EntryFits book ask it.it = each_at (EntryFits book ask) it.it told well.fits (among_at told ride.entry it.it it.at) in
    let given = result_reply it.it.reply (results.Trip trip) (among_at (results_in it.it.reply) ride.result (results.Trip trip) it.listed) in
    let fits : ReplyFits book ask (Reach ride.region ride.stop ride.start) (Some (deliveries.Multi (multi_replies.Results given.0))) =
    subst (λ (r : Option Delivery). ReplyFits book ask (Reach ride.region ride.stop ride.start) r) given.1 (subst (λ (q : Query). ReplyFits book ask q it.it.reply) it.query own) in
    let some : AnswersSome (FitsResult ride.region ride.stop ride.start) (results.Trip trip) =
    pairwise_at (FitsResult ride.region ride.stop ride.start) (ends_towards book ask.target ride.stop ride.region) given.0 (results.Trip trip) fits given.2 in
    record {
      target = some.target;
      fits = some.answers;
      of_record = record {
        entry = it.it;
        of_record = among_at told ride.entry it.it it.at;
        query = it.query;
        fits = own;
        found = given.0;
        reply = given.1;
        listed = given.2;
        rides = some_legs ride.region ride.stop ride.start some.target trip some.answers;
      };
    }

-- ---- where legs end

last_ends : (first : Leg) (rest : List Leg) → EndsAt (first ∷ rest) (reached (alighted first) rest).stop
last_ends first [] = (first, refl, refl)
last_ends first (leg ∷ legs) =
    let it = last_ends leg legs in
    let n : suc (length (leg ∷ legs) - 1) ≡ length (first ∷ leg ∷ legs) - 1 = omega arith in
    (it.0, subst (λ (k : ℕ). slice_get (first ∷ leg ∷ legs) k ≡ Some it.0) n it.1, it.2)

one_end : (legs : List Leg) (s t : Text) → EndsAt legs s → EndsAt legs t → s ≡ t
one_end legs s t a b = sym a.2 ∙ (ap (λ (leg : Leg). leg.alight) (same_Some a.0 b.0 (sym a.1 ∙ b.1)) ∙ b.2)

fits_ends : (region o : Text) (t : ℕ) (d : Text) (trip : Trip) → FitsTrip region o t d trip → EndsAt trip.legs d
fits_ends region o t d trip it =
    subst (λ (s : Text). EndsAt trip.legs s) it.ends.0 (subst (λ (legs : List Leg). EndsAt legs (reached (alighted it.first) it.rest).stop) (sym it.totals.legs_are) (last_ends it.first it.rest))

-- ---- each heard arrival comes from a trip of the record

pub record RideTo (told : List Entry) (arrival : Arrival) : Type 0 where
  pub number : ℕ
  pub it : Entry
  pub at : slice_get told number ≡ Some it
  pub stop : Text
  pub start : ℕ
  pub query : it.query ≡ Reach arrival.region stop start
  pub trip : Trip
  pub listed : Among (results.Trip trip) (results_in it.reply)
  pub ends : EndsAt trip.legs arrival.stop
  pub arrives : arrival.moment ≡ trip.end

ride_by : (book : Book) (ask : TripAsk) (told : List Entry) (arrival : Arrival) (number : ℕ) (it : Entry) (query : Query) (reply : Option Delivery)
    → slice_get told number ≡ Some it → it.query ≡ query → it.reply ≡ reply → ReplyFits book ask query reply → Among arrival (arrivals_heard book ask query reply) → RideTo told arrival
ride_by book ask told arrival number it (Check region stop) reply at eq er fits h = absurd h
ride_by book ask told arrival number it (Reach region stop start) None at eq er fits h = absurd h
ride_by book ask told arrival number it (Reach region stop start) (Some (deliveries.Multi (multi_replies.Fault fault))) at eq er fits h = absurd h
ride_by book ask told arrival number it (Reach region stop start) (Some (deliveries.Trip reply)) at eq er fits h = absurd h
ride_by book ask told arrival number it (Reach region stop start) (Some (deliveries.Events reply)) at eq er fits h = absurd h
ride_by book ask told arrival number it (Reach region stop start) (Some (deliveries.Points reply)) at eq er fits h = absurd h
ride_by book ask told arrival number it (Reach region stop start) (Some (deliveries.Multi (multi_replies.Results found))) at eq er fits h =
    let from : ListedTrip region stop start found arrival = listed_trip region stop start (ends_towards book ask.target stop region) found arrival fits h in
    record {
      number = number;
      it = it;
      at = at;
      stop = stop;
      start = start;
      query = eq ∙ ap (λ (r : Text). Reach r stop start) (sym from.by_region);
      trip = from.trip;
      listed = subst (λ (r : Option Delivery). Among (results.Trip from.trip) (results_in r)) (sym er) from.listed;
      ends = fits_ends region stop start arrival.stop from.trip from.fits;
      arrives = from.at;
    }

pub arrival_ride : (book : Book) (ask : TripAsk) (told : List Entry) (arrival : Arrival) → Each (EntryFits book ask) told → Among arrival (arrivals book ask told) → RideTo told arrival
arrival_ride book ask told arrival fits h =
    let from : HeardFrom book ask told arrival = heard_from_entry book ask told arrival h in
    let at = at_among told from.entry from.listed in
    ride_by book ask told arrival at.0 from.entry from.entry.query from.entry.reply at.1 refl refl (each_at (EntryFits book ask) from.entry told fits from.listed) from.heard

-- ---- the best arrival has its trip

pub last_is_there : (book : Book) (ask : TripAsk) (told : List Entry) (end : ℕ) (need : Need) → IsRecord book ask told → best book ask told ≡ Some end → need.stop ≡ ask.target → need.moment ≡ end → need.next ≡ None
    → ((k : ℕ) → k < length told → HasNoRide book need told k) → ⊥
last_is_there book ask told end need well e stop moment next none =
    let is : BestIs book ask told end = best_is book ask told end e in
    let ride : RideTo told is.arrival = arrival_ride book ask told is.arrival well.fits is.heard in
    let meets : Meets book need is.arrival.region ride.trip = (
      subst (λ (s : Text). EndsAt ride.trip.legs s) (is.at ∙ sym stop) ride.ends,
      subst (λ (o : Option Text). IsInTime book o need.stop is.arrival.region ride.trip.end need.moment) (sym next) (sym ride.arrives ∙ (sym is.is ∙ sym moment)),
    ) in
    none ride.number (slice_get_within told ride.number ride.it ride.at) ride.it is.arrival.region ride.stop ride.start ride.at ride.query (results.Trip ride.trip) ride.listed meets

-- ---- each other trip has one before it

-- an entry was open by those before it
open_then : (book : Book) (ask : TripAsk) (before later : List Entry) (n : ℕ) (it : Entry) → ToldInTurn book ask before later → slice_get later n ≡ Some it → IsOpenQuery book ask (before ++ take n later) it.query
open_then book ask before [] n it turn e = absurd (none-some it e)
open_then book ask before (first ∷ later) zero it turn e =
    subst (λ (entries : List Entry). IsOpenQuery book ask entries it.query) (sym (append-nil before)) (subst (λ (x : Entry). IsOpenQuery book ask before x.query) (same_Some first it e) turn.0)
open_then book ask before (first ∷ later) (suc n) it turn e =
    subst (λ (entries : List Entry). IsOpenQuery book ask entries it.query) (append_assoc before (first ∷ []) (take n later)) (open_then book ask (before ++ first ∷ []) later n it turn.1 e)

each_taken : (P : Entry → Type 0) (entries : List Entry) (n : ℕ) → Each P entries → Each P (take n entries)
each_taken P entries zero h = tt
each_taken P [] (suc n) h = tt
each_taken P (x ∷ xs) (suc n) h = (h.0, each_taken P xs n h.1)

taken_at : (entries : List Entry) (n k : ℕ) (it : Entry) → slice_get (take n entries) k ≡ Some it → (k < n) × (slice_get entries k ≡ Some it)
taken_at entries zero k it e = absurd (none-some it (sym (empty k) ∙ e))
  where
    empty : (i : ℕ) → slice_get (take zero entries) i ≡ None
    empty i = refl
taken_at [] (suc n) k it e = absurd (none-some it e)
taken_at (x ∷ xs) (suc n) zero it e = (omega arith, e)
taken_at (x ∷ xs) (suc n) (suc k) it e = let r = taken_at xs n k it e in (omega (arith, r.0), r.1)

pub before_is_there : (book : Book) (ask : TripAsk) (told : List Entry) (ride : Ride) (trip : Trip) (need : Need) → IsRecord book ask told → IsRide told ride trip → ((ride.stop ≡ ask.origin) × (ride.start ≡ ask.start) → ⊥)
    → need.stop ≡ ride.stop → need.moment ≡ ride.start → need.next ≡ Some ride.region → ((k : ℕ) → k < ride.entry → HasNoRide book need told k) → ⊥
before_is_there book ask told ride trip need well it other stop moment next none =
    let earlier = take ride.entry told in
    let opened : IsOpenQuery book ask earlier (Reach ride.region ride.stop ride.start) = subst (λ (q : Query). IsOpenQuery book ask earlier q) it.query (open_then book ask [] told ride.entry it.it well.in_turn it.at) in
    elim (known_start_back book ask earlier ride.stop ride.region ride.start (open_start book ask earlier ride.region ride.stop ride.start opened)) [
      | inl asked ↦ other (asked.at, asked.is)
      | inr after ↦
          let from : RideTo earlier after.arrival = arrival_ride book ask earlier after.arrival (each_taken (EntryFits book ask) told ride.entry well.fits) after.heard in
          let at = taken_at told ride.entry from.number from.it from.at in
          let changed : IsInTime book (Some ride.region) ride.stop after.arrival.region from.trip.end ride.start =
          ((λ e. after.other (sym e)), after.change, after.has, after.is ∙ ap (λ (n : ℕ). n + after.change) from.arrives) in
          let meets : Meets book need after.arrival.region from.trip = (
            subst (λ (s : Text). EndsAt from.trip.legs s) (after.at ∙ sym stop) from.ends,
            subst (λ (o : Option Text). IsInTime book o need.stop after.arrival.region from.trip.end need.moment) (sym next)
                (subst (λ (s : Text). IsInTime book (Some ride.region) s after.arrival.region from.trip.end need.moment) (sym stop)
                (subst (λ (n : ℕ). IsInTime book (Some ride.region) ride.stop after.arrival.region from.trip.end n) (sym moment) changed)),
          ) in
          none from.number at.0 from.it after.arrival.region from.stop from.start at.1 from.query (results.Trip from.trip) from.listed meets
    ]

-- ---- the chain behind a trip

-- how many legs fit between two moments
few_follow : (region : Text) (at : Standing) (legs : List Leg) → AllFollow (FitsNext region) at legs → length legs + at.moment ≤ (reached at legs).moment
few_follow region at [] follow = omega arith
few_follow region at (leg ∷ legs) follow =
    let rest = few_follow region (alighted leg) legs follow.1 in
    omega (arith, rest, follow.0.2, follow.0.3)

pub few_legs : (region o : Text) (t : ℕ) (d : Text) (trip : Trip) → FitsTrip region o t d trip → length trip.legs + t ≤ trip.end + 1
few_legs region o t d trip it =
    let rest = few_follow region (alighted it.first) it.rest it.follow in
    omega (arith, ap length it.totals.legs_are, rest, it.leaves, it.rides, it.ends.1)

first_leaves : (region o : Text) (t : ℕ) (d : Text) (trip : Trip) (it : FitsTrip region o t d trip) → it.first.departs ≤ trip.end
first_leaves region o t d trip it = omega (arith, fits_forward region (alighted it.first) it.rest it.follow, it.rides, it.ends.1)

-- the legs of a chain from the trip to the end were added, the last one first
pub record AreAdded (book : Book) (ask : TripAsk) (told : List Entry) (end : ℕ) (ride : Ride) (back : List Leg) : Type 0 where
  pub trip : Trip
  pub now : IsRide told ride trip
  pub more : List Trip
  pub ends : Standing
  pub reach : (from : Standing) → reached from trip.legs ≡ ends
  pub on : ChainOn book ask told ends more end
  pub legs_are : reverse back ≡ trip.legs ++ flat_map legs_of more
  pub few : length back + ride.start ≤ end + 1
  pub first : Leg
  pub rest : List Leg
  pub is : trip.legs ≡ first ∷ rest
  pub leaves : ride.start ≤ first.departs
  pub forward : first.departs ≤ end

-- where a trip that meets a need leads
met_reach : (book : Book) (ask : TripAsk) (told : List Entry) (need : Need) (ride : Ride) (trip : Trip) → FitsThere book ask told ride.region ride.stop ride.start trip → Meets book need ride.region trip
    → (from : Standing) → reached from trip.legs ≡ record { region = ride.region; stop = need.stop; moment = trip.end }
met_reach book ask told need ride trip there meets from =
    let stop : there.target ≡ need.stop = one_end trip.legs there.target need.stop (fits_ends ride.region ride.stop ride.start there.target trip there.fits) meets.0 in
    subst (λ (s : Text). reached from trip.legs ≡ record { region = ride.region; stop = s; moment = trip.end }) stop (fits_reach ride.region ride.stop ride.start there.target trip there.fits from)

pub added_last : (book : Book) (ask : TripAsk) (told : List Entry) (end : ℕ) (need : Need) (ride : Ride) (trip : Trip) (back : List Leg) → IsRecord book ask told → IsRide told ride trip → Meets book need ride.region trip
    → need.stop ≡ ask.target → need.moment ≡ end → need.next ≡ None → reverse back ≡ trip.legs ++ reverse [] → AreAdded book ask told end ride back
added_last book ask told end need ride trip back well it meets stop moment next legs =
    let there = ride_fits book ask told ride trip well it in
    let fits = there.fits in
    let ends_then : trip.end ≡ end = subst (λ (o : Option Text). IsInTime book o need.stop ride.region trip.end need.moment) next meets.1 ∙ moment in
    record {
      trip = trip;
      now = it;
      more = [];
      ends = record { region = ride.region; stop = need.stop; moment = trip.end };
      reach = met_reach book ask told need ride trip there meets;
      on = (stop, ends_then);
      legs_are = legs;
      few = omega (arith, few_legs ride.region ride.stop ride.start there.target trip fits, ends_then, ap length legs, length-reverse back, ap length (append-nil trip.legs));
      first = fits.first;
      rest = fits.rest;
      is = fits.totals.legs_are;
      leaves = fits.leaves;
      forward = omega (arith, first_leaves ride.region ride.stop ride.start there.target trip fits, ends_then);
    }

change_takes : (book : Book) (stop left right : Text) (change : ℕ) → IsWellBook book → HasChange book stop left right change → 1 ≤ change
change_takes book stop left right change well has = omega (arith, (well.link_times has.link has.listed).0, has.time)

pub added_before : (book : Book) (ask : TripAsk) (told : List Entry) (end : ℕ) (need : Need) (ride before : Ride) (trip : Trip) (back back' : List Leg) → IsWellBook book → IsRecord book ask told → AreAdded book ask told end ride back
    → IsRide told before trip → Meets book need before.region trip → need.stop ≡ ride.stop → need.moment ≡ ride.start → need.next ≡ Some ride.region → reverse back' ≡ trip.legs ++ reverse back → AreAdded book ask told end before back'
added_before book ask told end need ride before trip back back' well record_well added it meets stop moment next legs =
    let there = ride_fits book ask told before trip record_well it in
    let fits = there.fits in
    let of_ride = (ride_fits book ask told ride added.trip record_well added.now).of_record in
    let changed : IsInTime book (Some ride.region) ride.stop before.region trip.end ride.start =
    subst (λ (n : ℕ). IsInTime book (Some ride.region) ride.stop before.region trip.end n) moment
    (subst (λ (s : Text). IsInTime book (Some ride.region) s before.region trip.end need.moment) stop
    (subst (λ (o : Option Text). IsInTime book o need.stop before.region trip.end need.moment) next meets.1)) in
    let ends : Standing = record { region = before.region; stop = ride.stop; moment = trip.end } in
    let reach : (from : Standing) → reached from trip.legs ≡ ends = λ from.
    subst (λ (s : Text). reached from trip.legs ≡ record { region = before.region; stop = s; moment = trip.end }) stop (met_reach book ask told need before trip there meets from) in
    let takes = change_takes book ride.stop before.region ride.region changed.1 well changed.2 in
    record {
      trip = trip;
      now = it;
      more = added.trip ∷ added.more;
      ends = ends;
      reach = reach;
      on = (
        ride.region,
        record {
          other = changed.0;
          change = changed.1;
          has = changed.2;
          of_record = subst (λ (n : ℕ). IsTripOf book ask told ride.region ride.stop n added.trip) changed.3 of_ride;
        },
        subst (λ (s : Standing). ChainOn book ask told s added.more end) (sym (added.reach ends)) added.on,
      );
      legs_are = legs ∙ ap (λ (ls : List Leg). trip.legs ++ ls) added.legs_are;
      few = omega (arith, few_legs before.region before.stop before.start there.target trip fits, added.few, changed.3, takes, ap length legs, length-append trip.legs (reverse back), length-reverse back, length-reverse back');
      first = fits.first;
      rest = fits.rest;
      is = fits.totals.legs_are;
      leaves = fits.leaves;
      forward = omega (arith, first_leaves before.region before.stop before.start there.target trip fits, added.leaves, added.forward, changed.3);
    }

-- ---- the whole chain

pub all_joined : (book : Book) (ask : TripAsk) (told : List Entry) (end : ℕ) (ride : Ride) (back legs : List Leg) → IsRecord book ask told → best book ask told ≡ Some end → AreAdded book ask told end ride back
    → (ride.stop ≡ ask.origin) × (ride.start ≡ ask.start) → legs ≡ reverse back → AreJoined book ask told end legs
all_joined book ask told end ride back legs well e added is_first reversed =
    let best_one : BestIs book ask told end = best_is book ask told end e in
    let within : end ≤ ask.start + day_long = subst (λ (n : ℕ). n ≤ ask.start + day_long) (sym best_one.is) (heard_from_entry book ask told best_one.arrival best_one.heard).within in
    let of_ride = (ride_fits book ask told ride added.trip well added.now).of_record in
    let begins : IsTripOf book ask told ride.region ask.origin ask.start added.trip =
    subst (λ (n : ℕ). IsTripOf book ask told ride.region ask.origin n added.trip) is_first.1 (subst (λ (s : Text). IsTripOf book ask told ride.region s ride.start added.trip) is_first.0 of_ride) in
    let are : legs ≡ added.trip.legs ++ flat_map legs_of added.more = reversed ∙ added.legs_are in
    let from : Standing = record { region = ride.region; stop = ask.origin; moment = ask.start } in
    record {
      chained = record {
        trips = added.trip ∷ added.more;
        joined = are;
        chain = (ride.region, begins, subst (λ (s : Standing). ChainOn book ask told s added.more end) (sym (added.reach from)) added.on);
        within = within;
      };
      first = added.first;
      rest = added.rest ++ flat_map legs_of added.more;
      are = are ∙ ap (λ (ls : List Leg). ls ++ flat_map legs_of added.more) added.is;
      count = omega (arith, added.few, is_first.1, within, ap length reversed, length-reverse back);
      forward = added.forward;
      within = omega (arith, added.leaves, is_first.1, within);
    }
