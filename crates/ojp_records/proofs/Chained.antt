-- The trips behind each heard arrival: a chain of them ends there, whatever fitting replies were told, and none goes back in time.
use Rattle.std.proofs.Common.{◌≡◌, ◌≢◌, ℕ, ◌+◌, ◌≤◌, List, [], ◌∷◌, ◌++◌, ◌⊎◌, Option, Some, None, refl, sym, ◌∙◌, ap, subst, inl, inr, arith}
use Rattle.std.specs.List.{flat_map}
use Rattle.ojp_values.specs.Lists.{Among, Each, Pairwise}
use Rattle.ojp_values.specs.Texts.{Text}
use Rattle.ojp_values.specs.declared.asks.TripAsk.{TripAsk}
use Rattle.ojp_values.specs.declared.trips.Leg.{Leg}
use Rattle.ojp_values.specs.declared.trips.Trip.{Trip}
use Rattle.ojp_values.specs.declared.replies.TripResult.{TripResult}
use Rattle.ojp_values.specs.declared.replies.TripResult.TheVariants as results
use Rattle.ojp_values.specs.declared.replies.MultiReply.TheVariants as multi_replies
use Rattle.ojp_values.specs.declared.replies.Delivery.{Delivery}
use Rattle.ojp_values.specs.declared.replies.Delivery.TheVariants as deliveries
use Rattle.ojp_timetable.specs.Runs.{day_long}
use Rattle.ojp_timetable.specs.Journeys.{Standing, alighted, after, reached, AllFollow}
use Rattle.ojp_timetable.proofs.RideFacts.{stands}
use Rattle.ojp_links.specs.Fits.{FitsNext, FitsTrip, FitsResult}
use Rattle.ojp_exchange.specs.Book.{Book, HasChange}
use Rattle.ojp_records.specs.declared.queries.Query.{Query}
use Rattle.ojp_records.specs.declared.queries.Query.TheVariants.{Check, Reach}
use Rattle.ojp_records.specs.declared.queries.Entry.{Entry}
use Rattle.ojp_records.specs.Starts.{Arrival, arrivals_told, arrivals_heard, arrivals, known_starts}
use Rattle.ojp_records.specs.Chains.{IsTripOf, ChainOn, Chain, legs_of}
use Rattle.ojp_records.proofs.StartFacts.{HeardFrom, heard_from_entry, arrivals_last, known_start_back, BestIs, best_is}
use Rattle.ojp_records.proofs.WantedFacts.{open_start}
use Rattle.ojp_records.proofs.ChainFacts.{AnswersSome, pairwise_at}
use Rattle.ojp_ways.specs.Ways.{Ways, Reached, FirstRides, NextRides, InTurn, HasKnown, HasHeard}
use Rattle.ojp_ways.proofs.Sound.{each_is_reached}
use Rattle.ojp_records.specs.Pairs.{ends_towards, Pair}
use Rattle.ojp_records.specs.Told.{IsOpenQuery, ToldInTurn, ReplyFits, EntryFits, IsRecord}
use Rattle.ojp_records.specs.Laws.{BestIsChained}

-- a trip of the record, from the pair's stop at the start to the end
record TripTo (book : Book) (ask : TripAsk) (all : List Entry) (p : Pair) (l : ℕ) (q : Pair) (m : ℕ) : Type 0 where
  pub trip : Trip
  pub of_record : IsTripOf book ask all p.region p.stop l trip
  pub ends : (from : Standing) → reached from trip.legs ≡ record { region = q.region; stop = q.stop; moment = m }
  pub arrives : trip.end ≡ m

-- the book has a change from the end to the pair at the start
record ChangeTo (book : Book) (q : Pair) (m : ℕ) (p : Pair) (l : ℕ) : Type 0 where
  pub at : p.stop ≡ q.stop
  pub other : q.region ≢ p.region
  pub change : ℕ
  pub has : HasChange book q.stop q.region p.region change
  pub is : l ≡ m + change

abbrev by_record : Book → TripAsk → List Entry → Ways
by_record book ask all =
    record {
      Place = Pair;
      Label = ℕ;
      Starts = λ (p : Pair) (l : ℕ). (p.stop ≡ ask.origin) × (l ≡ ask.start);
      Rides = λ (p : Pair) (l : ℕ) (q : Pair) (m : ℕ). TripTo book ask all p l q m;
      Change = λ (q : Pair) (m : ℕ) (p : Pair) (l : ℕ). ChangeTo book q m p l;
    }

abbrev HeardIn : Book → TripAsk → List Entry → Pair → ℕ → Type 0
HeardIn book ask told q m = Among (record { stop = q.stop; region = q.region; moment = m }) (arrivals book ask told)

abbrev KnownIn : Book → TripAsk → List Entry → Pair → ℕ → Type 0
KnownIn book ask told p l = Among l (known_starts book ask told p.stop p.region)

-- the entry was open, its reply fits, and it is one of all
record TellsWell (book : Book) (ask : TripAsk) (all told : List Entry) (entry : Entry) : Type 0 where
  pub open_then : IsOpenQuery book ask told entry.query
  pub fits : EntryFits book ask entry
  pub listed : Among entry all

-- the trip that an arrival comes from, among the results
pub record ListedTrip (region o : Text) (t : ℕ) (found : List TripResult) (arrival : Arrival) : Type 0 where
  pub trip : Trip
  pub listed : Among (results.Trip trip) found
  pub by_region : arrival.region ≡ region
  pub at : arrival.moment ≡ trip.end
  pub fits : FitsTrip region o t arrival.stop trip

pub listed_trip : (region o : Text) (t : ℕ) (stops : List Text) (found : List TripResult) (arrival : Arrival) → Pairwise (FitsResult region o t) stops found → Among arrival (arrivals_told region stops found) → ListedTrip region o t found arrival
listed_trip region o t [] found arrival pairs h = absurd h
listed_trip region o t (stop ∷ stops) [] arrival pairs h = absurd h
listed_trip region o t (stop ∷ stops) (results.Trip trip ∷ found) arrival pairs (inl e) =
    record {
      trip = trip;
      listed = inl refl;
      by_region = ap (λ (it : Arrival). it.region) e;
      at = ap (λ (it : Arrival). it.moment) e;
      fits = subst (λ (s : Text). FitsTrip region o t s trip) (sym (ap (λ (it : Arrival). it.stop) e)) pairs.0;
    }
listed_trip region o t (stop ∷ stops) (results.Trip trip ∷ found) arrival pairs (inr h) =
    let it : ListedTrip region o t found arrival = listed_trip region o t stops found arrival pairs.1 h in
    record { trip = it.trip; listed = inr it.listed; by_region = it.by_region; at = it.at; fits = it.fits }
listed_trip region o t (stop ∷ stops) (results.NoTrip none ∷ found) arrival pairs h =
    let it : ListedTrip region o t found arrival = listed_trip region o t stops found arrival pairs.1 h in
    record { trip = it.trip; listed = inr it.listed; by_region = it.by_region; at = it.at; fits = it.fits }

fits_region : (region : Text) (at : Standing) (legs : List Leg) → at.region ≡ region → AllFollow (FitsNext region) at legs → (reached at legs).region ≡ region
fits_region region at [] here follow = here
fits_region region at (leg ∷ legs) here follow = fits_region region (after at leg) legs follow.0.0 follow.1

-- where the legs of a fitting trip lead
pub fits_reach : (region o : Text) (t : ℕ) (d : Text) (trip : Trip) → FitsTrip region o t d trip → (from : Standing) → reached from trip.legs ≡ record { region = region; stop = d; moment = trip.end }
fits_reach region o t d trip it from =
    ap (reached from) it.totals.legs_are
    ∙ stands (reached (alighted it.first) it.rest) region d trip.end (fits_region region (alighted it.first) it.rest it.of_region it.follow) it.ends.0 it.ends.1

pub some_legs : (region o : Text) (t : ℕ) (d : Text) (trip : Trip) → FitsTrip region o t d trip → trip.legs ≢ []
some_legs region o t d trip it e = let none : it.first ∷ it.rest ≡ [] = sym it.totals.legs_are ∙ e in cc

now_heard :
    (book : Book) (ask : TripAsk) (all told : List Entry) (entry : Entry) (query : Query) (reply : Option Delivery) (q : Pair) (m : ℕ)
    → entry.query ≡ query → entry.reply ≡ reply → IsOpenQuery book ask told query → EntryFits book ask entry → Among entry all → ReplyFits book ask query reply
    → Among (record { stop = q.stop; region = q.region; moment = m }) (arrivals_heard book ask query reply)
    → HasKnown (by_record book ask all) (KnownIn book ask told) q m
now_heard book ask all told entry (Check region stop) reply q m eq er open_then own listed fits h = absurd h
now_heard book ask all told entry (Reach region stop start) None q m eq er open_then own listed fits h = absurd h
now_heard book ask all told entry (Reach region stop start) (Some (deliveries.Multi (multi_replies.Fault fault))) q m eq er open_then own listed fits h = absurd h
now_heard book ask all told entry (Reach region stop start) (Some (deliveries.Trip reply)) q m eq er open_then own listed fits h = absurd h
now_heard book ask all told entry (Reach region stop start) (Some (deliveries.Events reply)) q m eq er open_then own listed fits h = absurd h
now_heard book ask all told entry (Reach region stop start) (Some (deliveries.Points reply)) q m eq er open_then own listed fits h = absurd h
now_heard book ask all told entry (Reach region stop start) (Some (deliveries.Multi (multi_replies.Results found))) q m eq er open_then own listed fits h =
    let it : ListedTrip region stop start found (record { stop = q.stop; region = q.region; moment = m }) = listed_trip region stop start (ends_towards book ask.target stop region) found _ fits h in
    record {
      place = record { stop = stop; region = region };
      label = start;
      known = open_start book ask told region stop start open_then;
      rides = record {
        trip = it.trip;
        of_record = record { entry = entry; of_record = listed; query = eq; fits = own; found = found; reply = er; listed = it.listed; rides = some_legs region stop start q.stop it.trip it.fits };
        ends = λ from. fits_reach region stop start q.stop it.trip it.fits from ∙ stands (record { region = region; stop = q.stop; moment = it.trip.end }) q.region q.stop m (sym it.by_region) refl (sym it.at);
        arrives = sym it.at;
      };
    }

last_here :
    (book : Book) (ask : TripAsk) (all told : List Entry) (entry : Entry) (q : Pair) (m : ℕ)
    → TellsWell book ask all told entry → HeardIn book ask (told ++ entry ∷ []) q m → HeardIn book ask told q m ⊎ HasKnown (by_record book ask all) (KnownIn book ask told) q m
last_here book ask all told entry q m tells h =
    elim (arrivals_last book ask told entry _ h) [
      | inl before ↦ inl before
      | inr now ↦ inr (now_heard book ask all told entry entry.query entry.reply q m refl refl tells.open_then tells.fits tells.listed tells.fits now.0)
    ]

back_here : (book : Book) (ask : TripAsk) (all told : List Entry) (p : Pair) (l : ℕ) → KnownIn book ask told p l → ((p.stop ≡ ask.origin) × (l ≡ ask.start)) ⊎ HasHeard (by_record book ask all) (HeardIn book ask told) p l
back_here book ask all told p l h =
    elim (known_start_back book ask told p.stop p.region l h) [
      | inl asked ↦ inl (asked.at, asked.is)
      | inr after ↦ inr (record {
        place = record { stop = p.stop; region = after.arrival.region };
        label = after.arrival.moment;
        heard = subst (λ (s : Text). Among (record { stop = s; region = after.arrival.region; moment = after.arrival.moment }) (arrivals book ask told)) after.at after.heard;
        change = record { at = refl; other = λ e. after.other (sym e); change = after.change; has = after.has; is = after.is };
      })
    ]

in_turn : (book : Book) (ask : TripAsk) (all told later : List Entry) → ((entry : Entry) → Among entry later → Among entry all) → ToldInTurn book ask told later → Each (EntryFits book ask) later → InTurn (TellsWell book ask all) told later
in_turn book ask all told [] listed turn fits = tt
in_turn book ask all told (entry ∷ later) listed turn fits =
    (record { open_then = turn.0; fits = fits.0; listed = listed entry (inl refl) }, in_turn book ask all (told ++ entry ∷ []) later (λ it h. listed it (inr h)) turn.1 fits.1)

reached_here : (book : Book) (ask : TripAsk) (told : List Entry) (q : Pair) (m : ℕ) → IsRecord book ask told → HeardIn book ask told q m → Reached (by_record book ask told) q m
reached_here book ask told q m well h =
    each_is_reached (by_record book ask told) Entry (TellsWell book ask told) (KnownIn book ask) (HeardIn book ask)
    (λ q' m' none. absurd (heard_from_entry book ask [] _ none).listed)
    (last_here book ask told) (back_here book ask told) told (in_turn book ask told [] told (λ entry listed. listed) well.in_turn well.fits) q m h

-- where one stands with an end
abbrev standing : Pair → ℕ → Standing
standing q m = record { region = q.region; stop = q.stop; moment = m }

-- the chain that ends where the search came to, and then goes on by these trips
chain_to :
    (book : Book) (ask : TripAsk) (told : List Entry) (q : Pair) (m : ℕ) (more : List Trip) (a : ℕ)
    → Reached (by_record book ask told) q m → ChainOn book ask told (standing q m) more a → (trips : List Trip) × Chain book ask told trips a
chain_to book ask told q m more a (FirstRides {p = p} {l = l} starts rides) on =
    let begins : IsTripOf book ask told p.region ask.origin ask.start rides.trip =
    subst (λ (n : ℕ). IsTripOf book ask told p.region ask.origin n rides.trip) starts.1 (subst (λ (s : Text). IsTripOf book ask told p.region s l rides.trip) starts.0 rides.of_record) in
    let from : Standing = record { region = p.region; stop = ask.origin; moment = ask.start } in
    (rides.trip ∷ more, (p.region, begins, subst (λ (s : Standing). ChainOn book ask told s more a) (sym (rides.ends from)) on))
chain_to book ask told q m more a (NextRides {q = s} {m = b} {p = p} {l = l} before change rides) on =
    let here : IsTripOf book ask told p.region s.stop (b + change.change) rides.trip =
    subst (λ (n : ℕ). IsTripOf book ask told p.region s.stop n rides.trip) change.is (subst (λ (x : Text). IsTripOf book ask told p.region x l rides.trip) change.at rides.of_record) in
    let next : ChainOn book ask told (reached (standing s b) rides.trip.legs) more a =
    subst (λ (x : Standing). ChainOn book ask told x more a) (sym (rides.ends (standing s b))) on in
    chain_to book ask told s b (rides.trip ∷ more) a before (p.region, record { other = change.other; change = change.change; has = change.has; of_record = here }, next)

-- the best arrival has a chain, for all replies whatever
pub best_is_chained : BestIsChained
best_is_chained book ask told a well e =
    let it : BestIs book ask told a = best_is book ask told a e in
    let here : Among (record { stop = it.arrival.stop; region = it.arrival.region; moment = it.arrival.moment }) (arrivals book ask told) = it.heard in
    let from : HeardFrom book ask told it.arrival = heard_from_entry book ask told it.arrival it.heard in
    let within : it.arrival.moment ≤ ask.start + day_long = from.within in
    let chain : (trips : List Trip) × Chain book ask told trips a =
    chain_to book ask told (record { stop = it.arrival.stop; region = it.arrival.region }) it.arrival.moment [] a
    (reached_here book ask told (record { stop = it.arrival.stop; region = it.arrival.region }) it.arrival.moment well here) (it.at, sym it.is) in
    (flat_map legs_of chain.0, record { trips = chain.0; joined = refl; chain = chain.1; within = subst (λ (n : ℕ). n ≤ ask.start + day_long) (sym it.is) within })

-- no known start is before the asked one

pub fits_forward : (region : Text) (at : Standing) (legs : List Leg) → AllFollow (FitsNext region) at legs → at.moment ≤ (reached at legs).moment
fits_forward region at [] follow = omega arith
fits_forward region at (leg ∷ legs) follow =
    let later : leg.arrives ≤ (reached (alighted leg) legs).moment = fits_forward region (alighted leg) legs follow.1 in
    let next : FitsNext region at leg = follow.0 in
    omega (arith, next.2, next.3)

-- a trip of the record fits
trip_fits : (book : Book) (ask : TripAsk) (told : List Entry) (region stop : Text) (start : ℕ) (trip : Trip) → IsTripOf book ask told region stop start trip → AnswersSome (FitsResult region stop start) (results.Trip trip)
trip_fits book ask told region stop start trip it =
    let fits : ReplyFits book ask (Reach region stop start) (Some (deliveries.Multi (multi_replies.Results it.found))) =
    subst (λ (r : Option Delivery). ReplyFits book ask (Reach region stop start) r) it.reply
    (subst (λ (q : Query). ReplyFits book ask q it.entry.reply) it.query it.fits) in
    pairwise_at (FitsResult region stop start) (ends_towards book ask.target stop region) it.found (results.Trip trip) fits it.listed

trip_forward : (book : Book) (ask : TripAsk) (told : List Entry) (region stop : Text) (start : ℕ) (trip : Trip) → IsTripOf book ask told region stop start trip → start ≤ trip.end
trip_forward book ask told region stop start trip it =
    let some : AnswersSome (FitsResult region stop start) (results.Trip trip) = trip_fits book ask told region stop start trip it in
    let fits : FitsTrip region stop start some.target trip = some.answers in
    let later : fits.first.arrives ≤ (reached (alighted fits.first) fits.rest).moment = fits_forward region (alighted fits.first) fits.rest fits.follow in
    omega (arith, fits.leaves, fits.rides, fits.ends.1)

reached_forward : (book : Book) (ask : TripAsk) (told : List Entry) (q : Pair) (m : ℕ) → Reached (by_record book ask told) q m → ask.start ≤ m
reached_forward book ask told q m (FirstRides {p = p} {l = l} starts rides) =
    let on : l ≤ rides.trip.end = trip_forward book ask told p.region p.stop l rides.trip rides.of_record in
    omega (arith, starts.1, rides.arrives)
reached_forward book ask told q m (NextRides {q = s} {m = b} {p = p} {l = l} way change rides) =
    let before : ask.start ≤ b = reached_forward book ask told s b way in
    let on : l ≤ rides.trip.end = trip_forward book ask told p.region p.stop l rides.trip rides.of_record in
    omega (arith, change.is, rides.arrives)

pub start_low : (book : Book) (ask : TripAsk) (told : List Entry) (stop region : Text) (start : ℕ) → IsRecord book ask told → Among start (known_starts book ask told stop region) → ask.start ≤ start
start_low book ask told stop region start well h =
    elim (known_start_back book ask told stop region start h) [
      | inl asked ↦ let is : start ≡ ask.start = asked.is in omega arith
      | inr after ↦
          let here : Among (record { stop = after.arrival.stop; region = after.arrival.region; moment = after.arrival.moment }) (arrivals book ask told) = after.heard in
          let low : ask.start ≤ after.arrival.moment =
          reached_forward book ask told _ after.arrival.moment (reached_here book ask told (record { stop = after.arrival.stop; region = after.arrival.region }) after.arrival.moment well here) in
          let is : start ≡ after.arrival.moment + after.change = after.is in
          omega arith
    ]
