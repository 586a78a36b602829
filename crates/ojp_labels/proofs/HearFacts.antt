-- What a board takes of a reply, target by target.
use Rattle.std.proofs.Common.{◌≡◌, ◌≢◌, ℕ, zero, suc, ◌+◌, ◌<◌, ◌≤◌, Bool, true, false, not, cond, ◌&&◌, ◌⊎◌, List, [], ◌∷◌, ◌++◌, map, Option, Some, None, length, get_or, take, drop, nat_le, refl, sym, ◌∙◌, ap, subst, inl, inr, arith, slice_get}
use Rattle.std.specs.List.{filter}
use Rattle.std.proofs.lemmas.Bool.{true≢false, cases_Bool, and_parts, not-true}
use Rattle.std.proofs.lemmas.List.{drop_more, drop_all, length-drop, take_more, take_all, take-append-drop, append_assoc, append-nil, length-append, length_push, length-map, length-take-le, map-append}
use Rattle.std.proofs.lemmas.Option.{none-some, same_Some, slice_get_within, slice_get-get_or, get_or_from_slice_get}
use Rattle.ojp_values.specs.Lists.{Among, Pairwise, least}
use Rattle.ojp_values.specs.Texts.{Text, same}
use Rattle.ojp_exchange.specs.Book.{Spot, Book, leads_out, serves, HasChange}
use Rattle.ojp_exchange.specs.Places.{IsSpotAt, IsPairAt, NoPairAt, IsEdge, AreEdges, leads_on, AreWays}
use Rattle.ojp_exchange.specs.Kept.{IsWellBook}
use Rattle.ojp_timetable.specs.Runs.{day_long}
use Rattle.ojp_records.specs.Pairs.{is_way_on, ends_towards, served_goal}
use Rattle.ojp_records.specs.Starts.{Arrival, arrivals_told, is_within, moment_of, is_at_target, starts_after, lesser_of}
use Rattle.ojp_labels.specs.Labels.{lowered_by, IsWithin}
use Rattle.ojp_labels.specs.Boards.{AreLabels, IsLabel, starts_by}
use Rattle.ojp_labels.specs.Hearing.{is_away, stop_of, ways_on, stops_to, way_stops, told_by, Follow, best_by}
use Rattle.ojp_records.proofs.StartFacts.{start_after_back}
use Rattle.ojp_labels.proofs.LabelFacts.{labels_arrive, known_more, starts_more, lesser_none, best_more}
use Rattle.ojp_records.proofs.BoardFacts.{filter_append}
use Rattle.ojp_timetable.proofs.ReadFacts.{among_at}
use Rattle.ojp_exchange.proofs.SpotFacts.{returned_at}
use Rattle.ojp_values.proofs.ListFacts.{among_filter_back}
use Rattle.ojp_timetable.proofs.TextFacts.{same_is, is_same}
use Rattle.ojp_values.specs.declared.asks.TripAsk.{TripAsk}
use Rattle.ojp_values.specs.declared.trips.Trip.{Trip}
use Rattle.ojp_values.specs.declared.replies.TripResult.{TripResult}
use Rattle.ojp_values.specs.declared.replies.TripResult.TheVariants as results
use Rattle.ojp_exchange.specs.declared.spots.Edge.{Edge}
use Rattle.ojp_records.specs.declared.queries.Entry.{Entry}
use Rattle.ojp_labels.specs.declared.labels.Label.{Label}

-- nothing is heard: nothing changes
pub follow_none : (book : Book) (ask : TripAsk) (labels : List Label) → Follow book ask [] labels labels
follow_none book ask labels told heard it = subst (λ (hs : List Arrival). AreLabels book ask told hs labels) (sym (append-nil heard)) it

-- one arrival, and then others
pub follow_then : (book : Book) (ask : TripAsk) (first second : List Arrival) (old mid new : List Label) → Follow book ask first old mid → Follow book ask second mid new → Follow book ask (first ++ second) old new
follow_then book ask first second old mid new f g told heard it =
    subst (λ (hs : List Arrival). AreLabels book ask told hs new) (append_assoc heard first second) (g told (heard ++ first) (f told heard it))

pub edges_within : (book : Book) (from : ℕ) (edges : List Edge) (places : ℕ) → AreEdges book from edges → places ≡ length book.spots → IsWithin edges places
edges_within book from edges places are count k edge at =
    let listed : Among edge edges = among_at edges k edge at in
    let it : IsEdge book from edge.to edge.change = (are edge.to edge.change).0 listed in
    let within : edge.to < length book.spots = slice_get_within book.spots edge.to it.leaves.spot it.leaves.at in
    omega arith

-- the arrival of a trip at a spot
pub arrive_follows :
    (book : Book) (ask : TripAsk) (way : ℕ) (spot : Spot) (edges : List Edge) (trip : Trip) (labels : List Label)
    → IsWellBook book → AreEdges book way edges → IsSpotAt book way spot → nat_le trip.end (ask.start + day_long) ≡ true
    → Follow book ask (told_by ask spot.region (spot.stop ∷ []) (results.Trip trip ∷ [])) labels (lowered_by edges trip.end labels)
arrive_follows book ask way spot edges trip labels well are at within told heard it =
    subst (λ (hs : List Arrival). AreLabels book ask told (heard ++ hs) (lowered_by edges trip.end labels)) (sym (ap (λ (b : Bool). cond b (one ∷ []) []) within))
    (labels_arrive book ask told heard labels way edges one well are (record { spot = spot; at = at; stop_is = refl; region_is = refl }) it)
  where
    one : Arrival
    one = record { stop = spot.stop; region = spot.region; moment = trip.end }

pub late_none : (ask : TripAsk) (stop region : Text) (trip : Trip) → nat_le trip.end (ask.start + day_long) ≡ false → told_by ask region (stop ∷ []) (results.Trip trip ∷ []) ≡ []
late_none ask stop region trip late = ap (λ (b : Bool). cond b (record { stop = stop; region = region; moment = trip.end } ∷ []) []) late

-- the results so far
pub record TakenTo (book : Book) (ask : TripAsk) (stop region : Text) (found : List TripResult) (old new : List Label) (ways next : ℕ) : Type 0 where
  pub count : length new ≡ length book.spots
  pub taken : next ≡ length (stops_to book ask stop region ways)
  pub follow : Follow book ask (told_by ask region (stops_to book ask stop region ways) (take next found)) old new

arrivals_push : (region : Text) (stops : List Text) (stop : Text) (found : List TripResult) (result : TripResult) → length found ≡ length stops → arrivals_told region (stops ++ stop ∷ []) (found ++ result ∷ []) ≡ arrivals_told region stops found ++ arrivals_told region (stop ∷ []) (result ∷ [])
arrivals_push region [] stop [] result e = refl
arrivals_push region [] stop (r ∷ found) result e = absurd (omega arith)
arrivals_push region (s ∷ stops) stop [] result e = absurd (omega arith)
arrivals_push region (s ∷ stops) stop (results.Trip trip ∷ found) result e = ap (λ xs. record { stop = s; region = region; moment = trip.end } ∷ xs) (arrivals_push region stops stop found result (omega arith))
arrivals_push region (s ∷ stops) stop (results.NoTrip none ∷ found) result e = arrivals_push region stops stop found result (omega arith)

-- the way at the number
pub way_at : (book : Book) (ways : List ℕ) (spots : List Spot) (i way : ℕ) → Pairwise (IsSpotAt book) ways spots → slice_get ways i ≡ Some way → (spot : Spot) × (slice_get spots i ≡ Some spot) × IsSpotAt book way spot
way_at book [] spots i way pairs at = absurd (none-some way at)
way_at book (w ∷ ways) [] i way pairs at = absurd pairs
way_at book (w ∷ ways) (s ∷ spots) zero way pairs at = (s, refl, subst (λ (n : ℕ). IsSpotAt book n s) (same_Some w way at) pairs.0)
way_at book (w ∷ ways) (s ∷ spots) (suc i) way pairs at = way_at book ways spots i way pairs.1 at

pub pairwise_length : {X Y : Type 0} (R : X → Y → Type 0) (xs : List X) (ys : List Y) → Pairwise R xs ys → length xs ≡ length ys
pairwise_length R [] [] h = refl
pairwise_length R [] (y ∷ ys) h = absurd h
pairwise_length R (x ∷ xs) [] h = absurd h
pairwise_length R (x ∷ xs) (y ∷ ys) h = let e : length xs ≡ length ys = pairwise_length R xs ys h.1 in omega arith

-- one way more
pub stops_more : (book : Book) (ask : TripAsk) (stop region : Text) (i : ℕ) (spot : Spot) → slice_get (ways_on book region) i ≡ Some spot
    → stops_to book ask stop region (i + 1) ≡ stops_to book ask stop region i ++ map stop_of (cond (is_away ask stop spot) (spot ∷ []) [])
stops_more book ask stop region i spot at =
    let within : i < length (ways_on book region) = slice_get_within (ways_on book region) i spot at in
    let here : get_or (ways_on book region) i spot ≡ spot = get_or_from_slice_get (ways_on book region) i spot spot at in
    ap (λ (xs : List Spot). map stop_of (filter (is_away ask stop) xs)) (take_more (ways_on book region) i spot within ∙ ap (λ (s : Spot). take i (ways_on book region) ++ s ∷ []) here)
    ∙ (ap (map stop_of) (filter_append (is_away ask stop) (take i (ways_on book region)) (spot ∷ []))
    ∙ map-append stop_of (filter (is_away ask stop) (take i (ways_on book region))) (filter (is_away ask stop) (spot ∷ [])))

pub stops_below : (book : Book) (ask : TripAsk) (stop region : Text) (i : ℕ) → length (stops_to book ask stop region i) ≤ length (way_stops book ask stop region)
stops_below book ask stop region i =
    let ways : List Spot = ways_on book region in
    let split : way_stops book ask stop region ≡ stops_to book ask stop region i ++ map stop_of (filter (is_away ask stop) (drop i ways)) =
    ap (λ (xs : List Spot). map stop_of (filter (is_away ask stop) xs)) (sym (take-append-drop i ways))
    ∙ (ap (map stop_of) (filter_append (is_away ask stop) (take i ways) (drop i ways)) ∙ map-append stop_of (filter (is_away ask stop) (take i ways)) (filter (is_away ask stop) (drop i ways))) in
    let both : length (way_stops book ask stop region) ≡ length (stops_to book ask stop region i) + length (map stop_of (filter (is_away ask stop) (drop i ways))) = ap length split ∙ length-append (stops_to book ask stop region i) (map stop_of (filter (is_away ask stop) (drop i ways))) in
    omega arith

pub taken_past : (book : Book) (ask : TripAsk) (stop region : Text) (found : List TripResult) (old new : List Label) (i next : ℕ) (spot : Spot)
    → slice_get (ways_on book region) i ≡ Some spot → is_away ask stop spot ≡ false → TakenTo book ask stop region found old new i next → TakenTo book ask stop region found old new (i + 1) next
taken_past book ask stop region found old new i next spot at here it =
    let same_stops : stops_to book ask stop region (i + 1) ≡ stops_to book ask stop region i =
    stops_more book ask stop region i spot at ∙ (ap (λ (b : Bool). stops_to book ask stop region i ++ map stop_of (cond b (spot ∷ []) [])) here ∙ append-nil (stops_to book ask stop region i)) in
    record {
      count = it.count;
      taken = it.taken ∙ ap length (sym same_stops);
      follow = subst (λ (stops : List Text). Follow book ask (told_by ask region stops (take next found)) old new) (sym same_stops) it.follow;
    }

pub taken_below : (book : Book) (ask : TripAsk) (stop region : Text) (i next : ℕ) (spot : Spot) → slice_get (ways_on book region) i ≡ Some spot → is_away ask stop spot ≡ true → next ≡ length (stops_to book ask stop region i) → next < length (way_stops book ask stop region)
taken_below book ask stop region i next spot at away taken =
    let more : stops_to book ask stop region (i + 1) ≡ stops_to book ask stop region i ++ spot.stop ∷ [] = stops_more book ask stop region i spot at ∙ ap (λ (b : Bool). stops_to book ask stop region i ++ map stop_of (cond b (spot ∷ []) [])) away in
    let longer : length (stops_to book ask stop region (i + 1)) ≡ length (stops_to book ask stop region i) + 1 = ap length more ∙ length_push (stops_to book ask stop region i) spot.stop in
    let below : length (stops_to book ask stop region (i + 1)) ≤ length (way_stops book ask stop region) = stops_below book ask stop region (i + 1) in
    omega arith

pub taken_more : (book : Book) (ask : TripAsk) (stop region : Text) (found : List TripResult) (old mid new : List Label) (i next : ℕ) (spot : Spot) (result : TripResult)
    → slice_get (ways_on book region) i ≡ Some spot → spot.region ≡ region → is_away ask stop spot ≡ true → slice_get found next ≡ Some result → length new ≡ length book.spots
    → TakenTo book ask stop region found old mid i next → Follow book ask (told_by ask spot.region (spot.stop ∷ []) (result ∷ [])) mid new → TakenTo book ask stop region found old new (i + 1) (next + 1)
taken_more book ask stop region found old mid new i next spot result at of_region away here count it follows =
    let more : stops_to book ask stop region (i + 1) ≡ stops_to book ask stop region i ++ spot.stop ∷ [] = stops_more book ask stop region i spot at ∙ ap (λ (b : Bool). stops_to book ask stop region i ++ map stop_of (cond b (spot ∷ []) [])) away in
    let within : next < length found = slice_get_within found next result here in
    let first : take (next + 1) found ≡ take next found ++ result ∷ [] = take_more found next result within ∙ ap (λ (r : TripResult). take next found ++ r ∷ []) (get_or_from_slice_get found next result result here) in
    let long : length (take next found) ≡ next = length-take-le next found (omega arith) in
    let told : arrivals_told region (stops_to book ask stop region (i + 1)) (take (next + 1) found) ≡ arrivals_told region (stops_to book ask stop region i) (take next found) ++ arrivals_told region (spot.stop ∷ []) (result ∷ []) =
    ap (λ (ss : List Text). arrivals_told region ss (take (next + 1) found)) more ∙ (ap (λ (fs : List TripResult). arrivals_told region (stops_to book ask stop region i ++ spot.stop ∷ []) fs) first
    ∙ arrivals_push region (stops_to book ask stop region i) spot.stop (take next found) result (long ∙ it.taken)) in
    let heard : told_by ask region (stops_to book ask stop region (i + 1)) (take (next + 1) found) ≡ told_by ask region (stops_to book ask stop region i) (take next found) ++ told_by ask region (spot.stop ∷ []) (result ∷ []) =
    ap (filter (is_within ask)) told ∙ filter_append (is_within ask) (arrivals_told region (stops_to book ask stop region i) (take next found)) (arrivals_told region (spot.stop ∷ []) (result ∷ [])) in
    let follows' : Follow book ask (told_by ask region (spot.stop ∷ []) (result ∷ [])) mid new = subst (λ (r : Text). Follow book ask (told_by ask r (spot.stop ∷ []) (result ∷ [])) mid new) of_region follows in
    record {
      count = count;
      taken = ap (λ (n : ℕ). n + 1) it.taken ∙ (sym (length_push (stops_to book ask stop region i) spot.stop) ∙ ap length (sym more));
      follow = subst (λ (hs : List Arrival). Follow book ask hs old new) (sym heard)
          (follow_then book ask (told_by ask region (stops_to book ask stop region i) (take next found)) (told_by ask region (spot.stop ∷ []) (result ∷ [])) old mid new it.follow follows');
    }

pub follow_by : (book : Book) (ask : TripAsk) (spot : Spot) (one : TripResult) (trip : Trip) (old mid new : List Label) → one ≡ results.Trip trip → new ≡ mid
    → Follow book ask (told_by ask spot.region (spot.stop ∷ []) (results.Trip trip ∷ [])) old mid → Follow book ask (told_by ask spot.region (spot.stop ∷ []) (one ∷ [])) old new
follow_by book ask spot one trip old mid new is e f =
    subst (λ (r : TripResult). Follow book ask (told_by ask spot.region (spot.stop ∷ []) (r ∷ [])) old new) (sym is)
    (subst (λ (ls : List Label). Follow book ask (told_by ask spot.region (spot.stop ∷ []) (results.Trip trip ∷ [])) old ls) (sym e) f)

-- the way at the number, with its spot
pub record WayHere (book : Book) (region : Text) (way i : ℕ) : Type 0 where
  pub spot : Spot
  pub at : slice_get (ways_on book region) i ≡ Some spot
  pub is : IsSpotAt book way spot
  pub of_region : spot.region ≡ region

leads_region : (book : Book) (region : Text) (spots : List Spot) (i : ℕ) (spot : Spot) → slice_get (filter (leads_on book region) spots) i ≡ Some spot → spot.region ≡ region
leads_region book region spots i spot at =
    let listed : Among spot (filter (leads_on book region) spots) = among_at (filter (leads_on book region) spots) i spot at in
    let both : Among spot spots × (leads_on book region spot ≡ true) = among_filter_back (leads_on book region) spot spots listed in
    let parts : (same region spot.region ≡ true) × (leads_out book region spot.stop ≡ true) = and_parts _ _ both.1 in
    sym (same_is region spot.region parts.0)

pub way_here : (book : Book) (region : Text) (ways : List ℕ) (i : ℕ) → AreWays book region ways → i < length ways → WayHere book region (get_or ways i 0) i
way_here book region ways i are within =
    let it : (spot : Spot) × (slice_get (ways_on book region) i ≡ Some spot) × IsSpotAt book (get_or ways i 0) spot = way_at book ways (ways_on book region) i (get_or ways i 0) are (slice_get-get_or ways i 0 within) in
    record { spot = it.0; at = it.1; is = it.2; of_region = leads_region book region book.spots i it.0 it.1 }

pub taken_none : (book : Book) (ask : TripAsk) (stop region : Text) (found : List TripResult) (labels : List Label) → length labels ≡ length book.spots → TakenTo book ask stop region found labels labels 0 0
taken_none book ask stop region found labels count = record { count = count; taken = refl; follow = follow_none book ask labels }

-- all of them
pub all_stops : (book : Book) (ask : TripAsk) (stop region : Text) (ways : List ℕ) (i : ℕ) → AreWays book region ways → length ways ≤ i → stops_to book ask stop region i ≡ way_stops book ask stop region
all_stops book ask stop region ways i are past =
    let long : length ways ≡ length (ways_on book region) = pairwise_length (IsSpotAt book) ways (ways_on book region) are in
    let past' : length (ways_on book region) ≤ i = omega arith in
    ap (λ (xs : List Spot). map stop_of (filter (is_away ask stop) xs)) (take_all i (ways_on book region) past')

pub taken_all : (book : Book) (ask : TripAsk) (stop region : Text) (found : List TripResult) (old new : List Label) (ways : List ℕ) (i next : ℕ) → AreWays book region ways → length ways ≤ i → TakenTo book ask stop region found old new i next
    → (next ≡ length (way_stops book ask stop region)) × Follow book ask (told_by ask region (way_stops book ask stop region) (take next found)) old new
taken_all book ask stop region found old new ways i next are past it =
    let e : stops_to book ask stop region i ≡ way_stops book ask stop region = all_stops book ask stop region ways i are past in
    (it.taken ∙ ap length e, subst (λ (stops : List Text). Follow book ask (told_by ask region stops (take next found)) old new) e it.follow)

pub taken_same : (book : Book) (ask : TripAsk) (stop region : Text) (found : List TripResult) (old mid new : List Label) (i n m : ℕ) → new ≡ mid → m ≡ n → TakenTo book ask stop region found old mid i n → TakenTo book ask stop region found old new i m
taken_same book ask stop region found old mid new i n m e f it =
    subst (λ (k : ℕ). TakenTo book ask stop region found old new i k) (sym f) (subst (λ (ls : List Label). TakenTo book ask stop region found old ls i n) (sym e) it)

-- an arrival where the region declares no such stop leads nowhere

no_start : (book : Book) (arrival : Arrival) (stop region : Text) → IsWellBook book → NoPairAt book arrival.stop arrival.region → starts_after book stop region arrival ≡ []
no_start book arrival stop region well nowhere = none_there (starts_after book stop region arrival) (λ t h.
    let it : (change : ℕ) × (arrival.stop ≡ stop) × (region ≢ arrival.region) × HasChange book stop arrival.region region change × (t ≡ arrival.moment + change) = start_after_back book stop region arrival t h in
    let has : HasChange book stop arrival.region region it.0 = it.3 in
    let there : (place : ℕ) × IsPairAt book place has.link.stop has.link.other = returned_at book has.link well has.listed (subst (λ (r : Text). Among r book.codes) (sym has.other) has.known) in
    nowhere there.0 (record { spot = there.1.spot; at = there.1.at; stop_is = there.1.stop_is ∙ (has.at ∙ sym it.1); region_is = there.1.region_is ∙ has.other }))
  where
    none_there : (xs : List ℕ) → ((t : ℕ) → Among t xs → ⊥) → xs ≡ []
    none_there [] h = refl
    none_there (x ∷ xs) h = absurd (h x (inl refl))

pub follow_nowhere : (book : Book) (ask : TripAsk) (arrival : Arrival) (labels : List Label) → IsWellBook book → NoPairAt book arrival.stop arrival.region → Follow book ask (arrival ∷ []) labels labels
follow_nowhere book ask arrival labels well nowhere told heard it =
    record {
      count = it.count;
      known = known_more book ask told heard arrival it.known;
      each = λ place spot label at is_label.
          let is : IsLabel book ask told heard spot label = it.each place spot label at is_label in
          record {
            start_is = is.start_is ∙ ap least (sym (starts_more book ask heard arrival spot.stop spot.region ∙ (ap (λ (xs : List ℕ). starts_by book ask heard spot.stop spot.region ++ xs) (no_start book arrival spot.stop spot.region well nowhere) ∙ append-nil (starts_by book ask heard spot.stop spot.region))));
            told_is = is.told_is;
            failed_is = is.failed_is;
            targets_are = is.targets_are;
          };
    }

-- the arrival of a trip at the requested target

end_arrival : TripAsk → Text → Trip → Arrival
end_arrival ask region trip = record { stop = ask.target; region = region; moment = trip.end }

pub end_told : (ask : TripAsk) (region : Text) (one : TripResult) (trip : Trip) → one ≡ results.Trip trip → nat_le trip.end (ask.start + day_long) ≡ true → told_by ask region (ask.target ∷ []) (one ∷ []) ≡ record { stop = ask.target; region = region; moment = trip.end } ∷ []
end_told ask region one trip is within =
    ap (λ (r : TripResult). told_by ask region (ask.target ∷ []) (r ∷ [])) is ∙ ap (λ (b : Bool). cond b (record { stop = ask.target; region = region; moment = trip.end } ∷ []) []) within

pub end_late : (ask : TripAsk) (region : Text) (one : TripResult) (trip : Trip) → one ≡ results.Trip trip → nat_le trip.end (ask.start + day_long) ≡ false → told_by ask region (ask.target ∷ []) (one ∷ []) ≡ []
end_late ask region one trip is late = ap (λ (r : TripResult). told_by ask region (ask.target ∷ []) (r ∷ [])) is ∙ late_none ask ask.target region trip late

pub best_one : (ask : TripAsk) (region : Text) (moment : ℕ) → best_by ask (record { stop = ask.target; region = region; moment = moment } ∷ []) ≡ Some moment
best_one ask region moment = ap (λ (b : Bool). least (map moment_of (cond b (record { stop = ask.target; region = region; moment = moment } ∷ []) []))) (is_same ask.target ask.target refl)

best_skip : (ask : TripAsk) (a : Arrival) (more : List Arrival) → is_at_target ask a ≡ false → best_by ask (filter (is_within ask) (a ∷ more)) ≡ best_by ask (filter (is_within ask) more)
best_skip ask a more e = go (is_within ask a)
  where
    go : (b : Bool) → best_by ask (cond b (a ∷ filter (is_within ask) more) (filter (is_within ask) more)) ≡ best_by ask (filter (is_within ask) more)
    go true = ap (λ (b : Bool). least (map moment_of (cond b (a ∷ filter (is_at_target ask) (filter (is_within ask) more)) (filter (is_at_target ask) (filter (is_within ask) more))))) e
    go false = refl

-- no way is at the requested target
pub best_ways : (ask : TripAsk) (stop region : Text) (spots : List Spot) (found : List TripResult) → best_by ask (told_by ask region (map stop_of (filter (is_away ask stop) spots)) found) ≡ None
best_ways ask stop region [] found = refl
best_ways ask stop region (spot ∷ spots) found = go (is_away ask stop spot) refl (best_ways ask stop region spots) found
  where
    go : (b : Bool) → is_away ask stop spot ≡ b → ((fs : List TripResult) → best_by ask (told_by ask region (map stop_of (filter (is_away ask stop) spots)) fs) ≡ None)
        → (fs : List TripResult) → best_by ask (told_by ask region (map stop_of (cond b (spot ∷ filter (is_away ask stop) spots) (filter (is_away ask stop) spots))) fs) ≡ None
    go false e rest fs = rest fs
    go true e rest [] = refl
    go true e rest (results.NoTrip none ∷ fs) = rest fs
    go true e rest (results.Trip trip ∷ fs) =
        let parts : (not (same stop spot.stop) ≡ true) × (not (same ask.target spot.stop) ≡ true) = and_parts _ _ e in
        best_skip ask (record { stop = spot.stop; region = region; moment = trip.end }) (arrivals_told region (map stop_of (filter (is_away ask stop) spots)) fs) (not-true _ parts.1) ∙ rest fs

-- the targets: the ways, and then the requested one

way_on_is : (book : Book) (ask : TripAsk) (stop region : Text) (spots : List Spot) → filter (is_way_on book ask.target stop region) spots ≡ filter (is_away ask stop) (filter (leads_on book region) spots)
way_on_is book ask stop region [] = refl
way_on_is book ask stop region (spot ∷ spots) = go (same region spot.region) (leads_out book region spot.stop) (way_on_is book ask stop region spots)
  where
    go : (s l : Bool) → filter (is_way_on book ask.target stop region) spots ≡ filter (is_away ask stop) (filter (leads_on book region) spots)
        → cond (s && (l && is_away ask stop spot)) (spot ∷ filter (is_way_on book ask.target stop region) spots) (filter (is_way_on book ask.target stop region) spots)
        ≡ filter (is_away ask stop) (cond (s && l) (spot ∷ filter (leads_on book region) spots) (filter (leads_on book region) spots))
    go true true rest = ap (λ (xs : List Spot). cond (is_away ask stop spot) (spot ∷ xs) xs) rest
    go true false rest = rest
    go false l rest = rest

pub targets_split : (book : Book) (ask : TripAsk) (stop region : Text) → ends_towards book ask.target stop region ≡ way_stops book ask stop region ++ served_goal book ask.target region
unfolding ends_towards
targets_split book ask stop region = ap (λ (xs : List Spot). map stop_of xs ++ served_goal book ask.target region) (way_on_is book ask stop region book.spots)

pub end_follows :
    (book : Book) (ask : TripAsk) (region : Text) (place : ℕ) (edges : List Edge) (one : TripResult) (trip : Trip) (old new : List Label) → IsWellBook book → AreEdges book place edges → IsPairAt book place ask.target region
    → one ≡ results.Trip trip → nat_le trip.end (ask.start + day_long) ≡ true → new ≡ lowered_by edges trip.end old → Follow book ask (told_by ask region (ask.target ∷ []) (one ∷ [])) old new
end_follows book ask region place edges one trip old new well are here is within e told heard it =
    subst (λ (hs : List Arrival). AreLabels book ask told (heard ++ hs) new) (sym (end_told ask region one trip is within))
    (subst (λ (ls : List Label). AreLabels book ask told (heard ++ record { stop = ask.target; region = region; moment = trip.end } ∷ []) ls) (sym e)
    (labels_arrive book ask told heard old place edges (record { stop = ask.target; region = region; moment = trip.end }) well are here it))

pub end_nowhere :
    (book : Book) (ask : TripAsk) (region : Text) (one : TripResult) (trip : Trip) (old new : List Label) → IsWellBook book → NoPairAt book ask.target region
    → one ≡ results.Trip trip → nat_le trip.end (ask.start + day_long) ≡ true → new ≡ old → Follow book ask (told_by ask region (ask.target ∷ []) (one ∷ [])) old new
end_nowhere book ask region one trip old new well nowhere is within e told heard it =
    subst (λ (hs : List Arrival). AreLabels book ask told (heard ++ hs) new) (sym (end_told ask region one trip is within))
    (subst (λ (ls : List Label). AreLabels book ask told (heard ++ record { stop = ask.target; region = region; moment = trip.end } ∷ []) ls) (sym e)
    (follow_nowhere book ask (record { stop = ask.target; region = region; moment = trip.end }) old well nowhere told heard it))

pub end_best : (ask : TripAsk) (region : Text) (one : TripResult) (trip : Trip) (arrival : Option ℕ) → one ≡ results.Trip trip → nat_le trip.end (ask.start + day_long) ≡ true → lesser_of arrival (Some trip.end) ≡ lesser_of arrival (best_by ask (told_by ask region (ask.target ∷ []) (one ∷ [])))
end_best ask region one trip arrival is within = ap (lesser_of arrival) (sym (ap (best_by ask) (end_told ask region one trip is within) ∙ best_one ask region trip.end))

-- a whole reply

arrivals_split : (region : Text) (xs ys : List Text) (found : List TripResult) → arrivals_told region (xs ++ ys) found ≡ arrivals_told region xs (take (length xs) found) ++ arrivals_told region ys (drop (length xs) found)
arrivals_split region [] ys found = refl
arrivals_split region (x ∷ xs) [] [] = refl
arrivals_split region (x ∷ xs) (y ∷ ys) [] = refl
arrivals_split region (x ∷ xs) ys (results.Trip trip ∷ found) = ap (λ zs. record { stop = x; region = region; moment = trip.end } ∷ zs) (arrivals_split region xs ys found)
arrivals_split region (x ∷ xs) ys (results.NoTrip none ∷ found) = arrivals_split region xs ys found

told_split : (ask : TripAsk) (region : Text) (xs ys : List Text) (found : List TripResult) → told_by ask region (xs ++ ys) found ≡ told_by ask region xs (take (length xs) found) ++ told_by ask region ys (drop (length xs) found)
told_split ask region xs ys found = ap (filter (is_within ask)) (arrivals_split region xs ys found) ∙ filter_append (is_within ask) (arrivals_told region xs (take (length xs) found)) (arrivals_told region ys (drop (length xs) found))

served_is : (book : Book) (ask : TripAsk) (region : Text) → serves book region ask.target ≡ true → served_goal book ask.target region ≡ ask.target ∷ []
served_is book ask region e = ap (λ (b : Bool). cond b (ask.target ∷ []) []) e

unserved_is : (book : Book) (ask : TripAsk) (region : Text) → serves book region ask.target ≡ false → served_goal book ask.target region ≡ []
unserved_is book ask region e = ap (λ (b : Bool). cond b (ask.target ∷ []) []) e

-- what a reply tells, where the region serves the target and where it does not
pub served_told :
    (book : Book) (ask : TripAsk) (stop region : Text) (found : List TripResult) (n : ℕ) (one : TripResult) → serves book region ask.target ≡ true → length (ends_towards book ask.target stop region) ≡ length found → n ≡ length (way_stops book ask stop region) → slice_get found n ≡ Some one
    → told_by ask region (ends_towards book ask.target stop region) found ≡ told_by ask region (way_stops book ask stop region) (take n found) ++ told_by ask region (ask.target ∷ []) (one ∷ [])
served_told book ask stop region found n one served each is at =
    let split : ends_towards book ask.target stop region ≡ way_stops book ask stop region ++ ask.target ∷ [] = targets_split book ask stop region ∙ ap (λ (xs : List Text). way_stops book ask stop region ++ xs) (served_is book ask region served) in
    let total : length found ≡ length (way_stops book ask stop region) + 1 = sym each ∙ (ap length split ∙ length_push (way_stops book ask stop region) ask.target) in
    let past : length found ≤ n + 1 = omega arith in
    let last : drop n found ≡ one ∷ [] = drop_more found n one (slice_get_within found n one at) ∙ (ap (λ (r : TripResult). r ∷ drop (n + 1) found) (get_or_from_slice_get found n one one at) ∙ ap (λ (rs : List TripResult). one ∷ rs) (drop_all (n + 1) found past)) in
    ap (λ (xs : List Text). told_by ask region xs found) split
    ∙ (told_split ask region (way_stops book ask stop region) (ask.target ∷ []) found
    ∙ (ap (λ (k : ℕ). told_by ask region (way_stops book ask stop region) (take k found) ++ told_by ask region (ask.target ∷ []) (drop k found)) (sym is)
    ∙ ap (λ (rs : List TripResult). told_by ask region (way_stops book ask stop region) (take n found) ++ told_by ask region (ask.target ∷ []) rs) last))

pub unserved_told :
    (book : Book) (ask : TripAsk) (stop region : Text) (found : List TripResult) (n : ℕ) → serves book region ask.target ≡ false → n ≡ length (way_stops book ask stop region)
    → told_by ask region (ends_towards book ask.target stop region) found ≡ told_by ask region (way_stops book ask stop region) (take n found)
unserved_told book ask stop region found n unserved is =
    let split : ends_towards book ask.target stop region ≡ way_stops book ask stop region ++ [] = targets_split book ask stop region ∙ ap (λ (xs : List Text). way_stops book ask stop region ++ xs) (unserved_is book ask region unserved) in
    ap (λ (xs : List Text). told_by ask region xs found) split
    ∙ (told_split ask region (way_stops book ask stop region) [] found
    ∙ (append-nil (told_by ask region (way_stops book ask stop region) (take (length (way_stops book ask stop region)) found))
    ∙ ap (λ (k : ℕ). told_by ask region (way_stops book ask stop region) (take k found)) (sym is)))

pub targets_long : (book : Book) (ask : TripAsk) (stop region : Text) → length (ends_towards book ask.target stop region) ≡ length (way_stops book ask stop region) + length (served_goal book ask.target region)
targets_long book ask stop region = ap length (targets_split book ask stop region) ∙ length-append (way_stops book ask stop region) (served_goal book ask.target region)

pub served_long : (book : Book) (ask : TripAsk) (region : Text) → serves book region ask.target ≡ true → length (served_goal book ask.target region) ≡ 1
served_long book ask region e = ap length (served_is book ask region e)

pub best_served : (book : Book) (ask : TripAsk) (stop region : Text) (found : List TripResult) (n : ℕ) (one : TripResult) (arrival : Option ℕ)
    → told_by ask region (ends_towards book ask.target stop region) found ≡ told_by ask region (way_stops book ask stop region) (take n found) ++ told_by ask region (ask.target ∷ []) (one ∷ [])
    → lesser_of arrival (best_by ask (told_by ask region (ask.target ∷ []) (one ∷ []))) ≡ lesser_of arrival (best_by ask (told_by ask region (ends_towards book ask.target stop region) found))
best_served book ask stop region found n one arrival e =
    ap (lesser_of arrival) (sym (ap (best_by ask) e ∙ (best_more ask (told_by ask region (way_stops book ask stop region) (take n found)) (told_by ask region (ask.target ∷ []) (one ∷ []))
    ∙ ap (λ (o : Option ℕ). lesser_of o (best_by ask (told_by ask region (ask.target ∷ []) (one ∷ [])))) (best_ways ask stop region (ways_on book region) (take n found)))))

pub best_unserved : (book : Book) (ask : TripAsk) (stop region : Text) (found : List TripResult) (n : ℕ) (arrival : Option ℕ)
    → told_by ask region (ends_towards book ask.target stop region) found ≡ told_by ask region (way_stops book ask stop region) (take n found)
    → arrival ≡ lesser_of arrival (best_by ask (told_by ask region (ends_towards book ask.target stop region) found))
best_unserved book ask stop region found n arrival e = sym (ap (lesser_of arrival) (ap (best_by ask) e ∙ best_ways ask stop region (ways_on book region) (take n found)) ∙ lesser_none arrival)
