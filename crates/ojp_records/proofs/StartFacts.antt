-- Targets, arrivals, known starts and the best arrival, element by element.
use Rattle.std.proofs.Common.{◌≡◌, ◌≢◌, ℕ, ◌+◌, ◌≤◌, Bool, true, false, not, cond, ◌&&◌, ◌⊎◌, List, [], ◌∷◌, ◌++◌, map, Some, refl, sym, ap, subst, inl, inr}
use Rattle.std.proofs.lemmas.Bool.{true≢false, and_parts, and_from, leb-true, le-leb, not-true, not_from_false}
use Rattle.std.specs.List.{filter, flat_map}
use Rattle.ojp_values.specs.Lists.{Among, Pairwise}
use Rattle.ojp_values.specs.Texts.{Text, same}
use Rattle.ojp_values.specs.declared.asks.TripAsk.{TripAsk}
use Rattle.ojp_values.specs.declared.trips.Trip.{Trip}
use Rattle.ojp_values.specs.declared.replies.TripResult.{TripResult}
use Rattle.ojp_values.specs.declared.replies.TripResult.TheVariants as results
use Rattle.ojp_timetable.specs.Runs.{day_long}
use Rattle.ojp_exchange.specs.Book.{Book, Spot, Link, HasChange, has_region, serves, leads_out}
use Rattle.ojp_records.specs.declared.queries.Entry.{Entry}
use Rattle.ojp_records.specs.Starts.{Arrival, arrivals_told, arrivals_heard, is_within, arrivals, is_change, may_change, starts_after, asked_start, known_starts, moment_of, is_at_target, best}
use Rattle.ojp_values.proofs.ListFacts.{Member, LeastBelow, among_append, among_append_left, among_append_right, among_map, among_map_back, among_filter, among_filter_back, among_flat_map, among_flat_map_back, least_below, least_among}
use Rattle.ojp_timetable.proofs.TextFacts.{same_is, is_same, differ_is, is_differ}
use Rattle.ojp_exchange.proofs.BookFacts.{is_region, region_is}
use Rattle.ojp_records.specs.Pairs.{served_goal, is_way_on, ends_towards}

-- what a choice by a test gives where it gives something
among_if : {X : Type 0} (b : Bool) (x : X) (xs : List X) → Among x (cond b xs []) → (b ≡ true) × Among x xs
among_if true x xs h = (refl, h)
among_if false x xs h = absurd h

if_among : {X : Type 0} (b : Bool) (x : X) (xs : List X) → b ≡ true → Among x xs → Among x (cond b xs [])
if_among true x xs e h = h
if_among false x xs e h = absurd (true≢false (sym e))

pub way_on_end :
    (book : Book) (goal stop region : Text) (spot : Spot)
    → Among spot book.spots → region ≡ spot.region → leads_out book region spot.stop ≡ true → stop ≢ spot.stop → goal ≢ spot.stop
    → Among spot.stop (ends_towards book goal stop region)
unfolding ends_towards
way_on_end book goal stop region spot listed of_region out elsewhere no_goal =
    let on : is_way_on book goal stop region spot ≡ true =
    and_from _ _ (is_same region spot.region of_region) (and_from _ _ out (and_from _ _ (not_from_false _ (is_differ stop spot.stop elsewhere)) (not_from_false _ (is_differ goal spot.stop no_goal)))) in
    among_append_left spot.stop _ (served_goal book goal region)
    (among_map (λ (it : Spot). it.stop) spot _ (among_filter (is_way_on book goal stop region) spot book.spots listed on))

pub goal_end : (book : Book) (goal stop region : Text) → serves book region goal ≡ true → Among goal (ends_towards book goal stop region)
unfolding ends_towards
goal_end book goal stop region served =
    among_append_right goal (map (λ (it : Spot). it.stop) (filter (is_way_on book goal stop region) book.spots)) _
    (if_among (serves book region goal) goal (goal ∷ []) served (inl refl))

arrival_at : Text → Text → ℕ → Arrival
arrival_at stop region moment = record { stop = stop; region = region; moment = moment }

-- the result at a target, with the arrival that it tells
pub record ResultAt (R : Text → TripResult → Type 0) (region : Text) (stops : List Text) (found : List TripResult) (d : Text) : Type 0 where
  pub result : TripResult
  pub holds : R d result
  pub told : (trip : Trip) → result ≡ results.Trip trip → Member (arrivals_told region stops found) (λ (it : Arrival). (it.stop ≡ d) × (it.region ≡ region) × (it.moment ≡ trip.end))

result_first : (region stop : Text) (stops : List Text) (result : TripResult) (found : List TripResult) (trip : Trip) → result ≡ results.Trip trip → Member (arrivals_told region (stop ∷ stops) (result ∷ found)) (λ (it : Arrival). (it.stop ≡ stop) × (it.region ≡ region) × (it.moment ≡ trip.end))
result_first region stop stops (results.Trip own) found trip e =
    let same : own ≡ trip = cc in
    record { item = record { stop = stop; region = region; moment = own.end }; among = inl refl; holds = (refl, refl, ap (λ (it : Trip). it.end) same) }
result_first region stop stops (results.NoTrip none) found trip e = absurd (cc)

result_later : (region stop : Text) (stops : List Text) (result : TripResult) (found : List TripResult) (P : Arrival → Type 0) → Member (arrivals_told region stops found) P → Member (arrivals_told region (stop ∷ stops) (result ∷ found)) P
result_later region stop stops (results.Trip own) found P m = record { item = m.item; among = inr m.among; holds = m.holds }
result_later region stop stops (results.NoTrip none) found P m = m

pub result_at : (R : Text → TripResult → Type 0) (region : Text) (stops : List Text) (found : List TripResult) (d : Text) → Pairwise R stops found → Among d stops → ResultAt R region stops found d
result_at R region [] found d pairs h = absurd h
result_at R region (stop ∷ stops) [] d pairs h = absurd pairs
result_at R region (stop ∷ stops) (result ∷ found) d pairs (inl e) =
    record {
      result = result;
      holds = subst (λ (s : Text). R s result) (sym e) pairs.0;
      told = λ trip is. subst (λ (s : Text). Member (arrivals_told region (stop ∷ stops) (result ∷ found)) (λ (it : Arrival). (it.stop ≡ s) × (it.region ≡ region) × (it.moment ≡ trip.end))) (sym e)
          (result_first region stop stops result found trip is);
    }
result_at R region (stop ∷ stops) (result ∷ found) d pairs (inr h) =
    let later : ResultAt R region stops found d = result_at R region stops found d pairs.1 h in
    record { result = later.result; holds = later.holds; told = λ trip is. result_later region stop stops result found _ (later.told trip is) }

-- the trip that an arrival comes from
pub record TripOf (R : Text → TripResult → Type 0) (region : Text) (stops : List Text) (arrival : Arrival) : Type 0 where
  pub trip : Trip
  pub by_region : arrival.region ≡ region
  pub at : arrival.moment ≡ trip.end
  pub target : Among arrival.stop stops
  pub holds : R arrival.stop (results.Trip trip)

trip_later : (R : Text → TripResult → Type 0) (region stop : Text) (stops : List Text) (arrival : Arrival) → TripOf R region stops arrival → TripOf R region (stop ∷ stops) arrival
trip_later R region stop stops arrival it = record { trip = it.trip; by_region = it.by_region; at = it.at; target = inr it.target; holds = it.holds }

pub trip_of : (R : Text → TripResult → Type 0) (region : Text) (stops : List Text) (found : List TripResult) (arrival : Arrival) → Pairwise R stops found → Among arrival (arrivals_told region stops found) → TripOf R region stops arrival
trip_of R region [] found arrival pairs h = absurd h
trip_of R region (stop ∷ stops) [] arrival pairs h = absurd h
trip_of R region (stop ∷ stops) (results.Trip trip ∷ found) arrival pairs (inl e) =
    let at : arrival.stop ≡ stop = ap (λ (it : Arrival). it.stop) e in
    record {
      trip = trip;
      by_region = ap (λ (it : Arrival). it.region) e;
      at = ap (λ (it : Arrival). it.moment) e;
      target = inl at;
      holds = subst (λ (s : Text). R s (results.Trip trip)) (sym at) pairs.0;
    }
trip_of R region (stop ∷ stops) (results.Trip trip ∷ found) arrival pairs (inr h) = trip_later R region stop stops arrival (trip_of R region stops found arrival pairs.1 h)
trip_of R region (stop ∷ stops) (results.NoTrip none ∷ found) arrival pairs h = trip_later R region stop stops arrival (trip_of R region stops found arrival pairs.1 h)

-- the arrival is heard, from an entry of the record
pub arrival_heard : (book : Book) (ask : TripAsk) (told : List Entry) (entry : Entry) (arrival : Arrival) → Among entry told → Among arrival (arrivals_heard book ask entry.query entry.reply) → arrival.moment ≤ ask.start + day_long → Among arrival (arrivals book ask told)
unfolding arrivals
arrival_heard book ask told entry arrival listed heard within =
    among_filter (is_within ask) arrival _ (among_flat_map (λ (entry : Entry). arrivals_heard book ask entry.query entry.reply) entry arrival told listed heard) (le-leb arrival.moment (ask.start + day_long) within)

pub record HeardFrom (book : Book) (ask : TripAsk) (told : List Entry) (arrival : Arrival) : Type 0 where
  pub entry : Entry
  pub listed : Among entry told
  pub heard : Among arrival (arrivals_heard book ask entry.query entry.reply)
  pub within : arrival.moment ≤ ask.start + day_long

pub heard_from_entry : (book : Book) (ask : TripAsk) (told : List Entry) (arrival : Arrival) → Among arrival (arrivals book ask told) → HeardFrom book ask told arrival
unfolding arrivals
heard_from_entry book ask told arrival h =
    let both : Among arrival (flat_map (λ (entry : Entry). arrivals_heard book ask entry.query entry.reply) told) × (is_within ask arrival ≡ true) = among_filter_back (is_within ask) arrival (flat_map (λ (entry : Entry). arrivals_heard book ask entry.query entry.reply) told) h in
    let m : Member told (λ (entry : Entry). Among arrival (arrivals_heard book ask entry.query entry.reply)) = among_flat_map_back (λ (entry : Entry). arrivals_heard book ask entry.query entry.reply) arrival told both.0 in
    record { entry = m.item; listed = m.among; heard = m.holds; within = leb-true arrival.moment (ask.start + day_long) both.1 }

-- an arrival stays heard
pub arrivals_more : (book : Book) (ask : TripAsk) (told more : List Entry) (arrival : Arrival) → Among arrival (arrivals book ask told) → Among arrival (arrivals book ask (told ++ more))
arrivals_more book ask told more arrival h =
    let it : HeardFrom book ask told arrival = heard_from_entry book ask told arrival h in
    arrival_heard book ask (told ++ more) it.entry arrival (among_append_left it.entry told more it.listed) it.heard it.within

-- an arrival of a record with one more entry
pub arrivals_last : (book : Book) (ask : TripAsk) (told : List Entry) (entry : Entry) (arrival : Arrival) → Among arrival (arrivals book ask (told ++ entry ∷ [])) → Among arrival (arrivals book ask told) ⊎ (Among arrival (arrivals_heard book ask entry.query entry.reply) × (arrival.moment ≤ ask.start + day_long))
arrivals_last book ask told entry arrival h =
    let it : HeardFrom book ask (told ++ entry ∷ []) arrival = heard_from_entry book ask (told ++ entry ∷ []) arrival h in
    elim (among_append it.entry told (entry ∷ []) it.listed) [
      | inl before ↦ inl (arrival_heard book ask told it.entry arrival before it.heard it.within)
      | inr (inl e) ↦ inr (subst (λ (x : Entry). Among arrival (arrivals_heard book ask x.query x.reply)) e it.heard, it.within)
      | inr (inr none) ↦ absurd none
    ]

-- the start is the asked one
pub record IsAsked (book : Book) (ask : TripAsk) (stop region : Text) (start : ℕ) : Type 0 where
  pub at : stop ≡ ask.origin
  pub served : serves book region stop ≡ true
  pub is : start ≡ ask.start

-- the start comes after a heard arrival by another region
pub record IsAfter (book : Book) (ask : TripAsk) (told : List Entry) (stop region : Text) (start : ℕ) : Type 0 where
  pub arrival : Arrival
  pub heard : Among arrival (arrivals book ask told)
  pub at : arrival.stop ≡ stop
  pub other : region ≢ arrival.region
  pub change : ℕ
  pub has : HasChange book stop arrival.region region change
  pub is : start ≡ arrival.moment + change

asked_back : (book : Book) (ask : TripAsk) (stop region : Text) (start : ℕ) → Among start (asked_start book ask stop region) → IsAsked book ask stop region start
unfolding asked_start
asked_back book ask stop region start h =
    let both : ((same stop ask.origin && serves book region stop) ≡ true) × Among start (ask.start ∷ []) = among_if (same stop ask.origin && serves book region stop) start (ask.start ∷ []) h in
    let parts : (same stop ask.origin ≡ true) × (serves book region stop ≡ true) = and_parts _ _ both.0 in
    record {
      at = same_is stop ask.origin parts.0;
      served = parts.1;
      is = elim both.1 [ inl e ↦ e | inr none ↦ absurd none ];
    }

-- a start after the arrival comes by a change
pub start_after_back : (book : Book) (stop region : Text) (arrival : Arrival) (start : ℕ) → Among start (starts_after book stop region arrival) → (change : ℕ) × (arrival.stop ≡ stop) × (region ≢ arrival.region) × HasChange book stop arrival.region region change × (start ≡ arrival.moment + change)
unfolding starts_after
start_after_back book stop region arrival start h = go (may_change book stop region arrival) refl h
  where
    go : (b : Bool) → may_change book stop region arrival ≡ b → Among start (cond b (map (λ (link : Link). arrival.moment + link.change) (filter (is_change stop region arrival) book.links)) []) → (change : ℕ) × (arrival.stop ≡ stop) × (region ≢ arrival.region) × HasChange book stop arrival.region region change × (start ≡ arrival.moment + change)
    go false e i = absurd i
    go true e i =
        let first : (same stop arrival.stop ≡ true) × ((not (same region arrival.region) && has_region book arrival.region) ≡ true) = and_parts _ _ e in
        let second : (not (same region arrival.region) ≡ true) × (has_region book arrival.region ≡ true) = and_parts _ _ first.1 in
        let m : Member (filter (is_change stop region arrival) book.links) (λ (link : Link). start ≡ arrival.moment + link.change) = among_map_back (λ (link : Link). arrival.moment + link.change) start _ i in
        let listed : Among m.item book.links × (is_change stop region arrival m.item ≡ true) = among_filter_back (is_change stop region arrival) m.item book.links m.among in
        let third : (same stop m.item.stop ≡ true) × ((same region m.item.region && same arrival.region m.item.other) ≡ true) = and_parts _ _ listed.1 in
        let fourth : (same region m.item.region ≡ true) × (same arrival.region m.item.other ≡ true) = and_parts _ _ third.1 in (
          m.item.change,
          sym (same_is stop arrival.stop first.0),
          differ_is region arrival.region (not-true _ second.0),
          record {
            known = region_is book arrival.region second.1;
            link = m.item;
            listed = listed.0;
            at = sym (same_is stop m.item.stop third.0);
            declaring = sym (same_is region m.item.region fourth.0);
            other = sym (same_is arrival.region m.item.other fourth.1);
            time = refl;
          },
          m.holds,
        )

after_back : (book : Book) (ask : TripAsk) (told : List Entry) (stop region : Text) (start : ℕ) (arrival : Arrival) → Among arrival (arrivals book ask told) → Among start (starts_after book stop region arrival) → IsAfter book ask told stop region start
after_back book ask told stop region start arrival heard h =
    let it : (change : ℕ) × (arrival.stop ≡ stop) × (region ≢ arrival.region) × HasChange book stop arrival.region region change × (start ≡ arrival.moment + change) = start_after_back book stop region arrival start h in
    record { arrival = arrival; heard = heard; at = it.1; other = it.2; change = it.0; has = it.3; is = it.4 }

pub known_start_back : (book : Book) (ask : TripAsk) (told : List Entry) (stop region : Text) (start : ℕ) → Among start (known_starts book ask told stop region) → IsAsked book ask stop region start ⊎ IsAfter book ask told stop region start
unfolding known_starts
known_start_back book ask told stop region start h =
    elim (among_append start (asked_start book ask stop region) _ h) [
      | inl asked ↦ inl (asked_back book ask stop region start asked)
      | inr after ↦
          let m : Member (arrivals book ask told) (λ (it : Arrival). Among start (starts_after book stop region it)) = among_flat_map_back (starts_after book stop region) start _ after in
          inr (after_back book ask told stop region start m.item m.among m.holds)
    ]

pub asked_is_known : (book : Book) (ask : TripAsk) (told : List Entry) (region : Text) → serves book region ask.origin ≡ true → Among ask.start (known_starts book ask told ask.origin region)
unfolding known_starts asked_start
asked_is_known book ask told region served =
    among_append_left ask.start _ (flat_map (starts_after book ask.origin region) (arrivals book ask told))
    (if_among _ ask.start (ask.start ∷ []) (and_from _ _ (is_same ask.origin ask.origin refl) served) (inl refl))

pub after_is_start : (book : Book) (stop region : Text) (arrival : Arrival) (change : ℕ) → arrival.stop ≡ stop → region ≢ arrival.region → HasChange book stop arrival.region region change → Among (arrival.moment + change) (starts_after book stop region arrival)
unfolding starts_after
after_is_start book stop region arrival change at other has =
    let fits : is_change stop region arrival has.link ≡ true =
    and_from _ _ (is_same stop has.link.stop (sym has.at)) (and_from _ _ (is_same region has.link.region (sym has.declaring)) (is_same arrival.region has.link.other (sym has.other))) in
    let may : may_change book stop region arrival ≡ true =
    and_from _ _ (is_same stop arrival.stop (sym at)) (and_from _ _ (not_from_false _ (is_differ region arrival.region other)) (is_region book arrival.region has.known)) in
    let listed : Among has.link (filter (is_change stop region arrival) book.links) = among_filter (is_change stop region arrival) has.link book.links has.listed fits in
    let start : Among (arrival.moment + has.link.change) (map (λ (link : Link). arrival.moment + link.change) (filter (is_change stop region arrival) book.links)) =
    among_map (λ (link : Link). arrival.moment + link.change) has.link _ listed in
    subst (λ (n : ℕ). Among (arrival.moment + n) (cond (may_change book stop region arrival) (map (λ (link : Link). arrival.moment + link.change) (filter (is_change stop region arrival) book.links)) [])) has.time
    (if_among (may_change book stop region arrival) (arrival.moment + has.link.change) _ may start)

pub after_is_known : (book : Book) (ask : TripAsk) (told : List Entry) (stop region : Text) (arrival : Arrival) (change : ℕ) → Among arrival (arrivals book ask told) → arrival.stop ≡ stop → region ≢ arrival.region → HasChange book stop arrival.region region change → Among (arrival.moment + change) (known_starts book ask told stop region)
unfolding known_starts
after_is_known book ask told stop region arrival change heard at other has =
    among_append_right (arrival.moment + change) (asked_start book ask stop region) _
    (among_flat_map (starts_after book stop region) arrival (arrival.moment + change) (arrivals book ask told) heard (after_is_start book stop region arrival change at other has))

-- a known start stays known
pub known_starts_more : (book : Book) (ask : TripAsk) (told more : List Entry) (stop region : Text) (start : ℕ) → Among start (known_starts book ask told stop region) → Among start (known_starts book ask (told ++ more) stop region)
unfolding known_starts
known_starts_more book ask told more stop region start h =
    elim (among_append start (asked_start book ask stop region) _ h) [
      | inl asked ↦ among_append_left start (asked_start book ask stop region) _ asked
      | inr after ↦
          let m : Member (arrivals book ask told) (λ (it : Arrival). Among start (starts_after book stop region it)) = among_flat_map_back (starts_after book stop region) start _ after in
          among_append_right start (asked_start book ask stop region) _
          (among_flat_map (starts_after book stop region) m.item start (arrivals book ask (told ++ more)) (arrivals_more book ask told more m.item m.among) m.holds)
    ]

-- the best arrival, and that it is at most the moment
pub record BestBelow (book : Book) (ask : TripAsk) (told : List Entry) (moment : ℕ) : Type 0 where
  pub value : ℕ
  pub is : best book ask told ≡ Some value
  pub below : value ≤ moment

pub best_below : (book : Book) (ask : TripAsk) (told : List Entry) (arrival : Arrival) → Among arrival (arrivals book ask told) → arrival.stop ≡ ask.target → BestBelow book ask told arrival.moment
unfolding best
best_below book ask told arrival heard at =
    let listed : Among arrival (filter (is_at_target ask) (arrivals book ask told)) = among_filter (is_at_target ask) arrival _ heard (is_same ask.target arrival.stop (sym at)) in
    let below : LeastBelow arrival.moment (map moment_of (filter (is_at_target ask) (arrivals book ask told))) = least_below arrival.moment _ (among_map moment_of arrival _ listed) in
    record { value = below.value; is = below.is; below = below.below }

-- the arrival that is the best
pub record BestIs (book : Book) (ask : TripAsk) (told : List Entry) (value : ℕ) : Type 0 where
  pub arrival : Arrival
  pub heard : Among arrival (arrivals book ask told)
  pub at : arrival.stop ≡ ask.target
  pub is : value ≡ arrival.moment

pub best_is : (book : Book) (ask : TripAsk) (told : List Entry) (value : ℕ) → best book ask told ≡ Some value → BestIs book ask told value
unfolding best
best_is book ask told value e =
    let m : Member (filter (is_at_target ask) (arrivals book ask told)) (λ (it : Arrival). value ≡ moment_of it) =
    among_map_back moment_of value _ (least_among value (map moment_of (filter (is_at_target ask) (arrivals book ask told))) e) in
    let both : Among m.item (arrivals book ask told) × (is_at_target ask m.item ≡ true) = among_filter_back (is_at_target ask) m.item (arrivals book ask told) m.among in
    record { arrival = m.item; heard = both.0; at = sym (same_is ask.target m.item.stop both.1); is = m.holds }
