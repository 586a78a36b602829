-- Records that tell the same arrivals and the same places want the same.
use Rattle.std.proofs.Common.{◌≡◌, ℕ, ◌≤◌, Bool, true, false, cond, ◌||◌, List, [], ◌∷◌, ◌++◌, map, filter, Option, Some, None, refl, sym, ◌∙◌, ap, subst, arith}
use Rattle.std.specs.Prelude.{MatchBool}
use Rattle.std.specs.List.{list_any, filter_map, flat_map, cons_option}
use Rattle.ojp_values.specs.Lists.{Pairwise, least}
use Rattle.ojp_values.specs.Texts.{Text, home}
use Rattle.ojp_values.specs.declared.asks.TripAsk.{TripAsk}
use Rattle.ojp_values.specs.declared.kinds.EventKind.TheVariants.{Departure}
use Rattle.ojp_values.specs.declared.trips.Event.{Event}
use Rattle.ojp_values.specs.declared.replies.Fault.{Fault}
use Rattle.ojp_values.specs.declared.replies.Fault.TheVariants as faults
use Rattle.ojp_values.specs.declared.replies.TripResult.{TripResult}
use Rattle.ojp_values.specs.declared.replies.TripResult.TheVariants as results
use Rattle.ojp_values.specs.declared.replies.EventsReply.TheVariants as events_replies
use Rattle.ojp_values.specs.declared.replies.Delivery.{Delivery}
use Rattle.ojp_values.specs.declared.replies.Delivery.TheVariants as deliveries
use Rattle.ojp_timetable.specs.Tables.{Timetable, has}
use Rattle.ojp_timetable.specs.Journeys.{AreTables}
use Rattle.ojp_timetable.specs.Answers.{AreEvents, RegionAnswers, TargetAnswered, MultiOutcome, targets_fault}
use Rattle.ojp_exchange.specs.Book.{Book, has_region}
use Rattle.ojp_records.specs.declared.queries.Query.{Query}
use Rattle.ojp_records.specs.declared.queries.Query.TheVariants.{Check, Reach}
use Rattle.ojp_records.specs.declared.queries.Entry.{Entry}
use Rattle.ojp_records.specs.Records.{same_query, is_told}
use Rattle.ojp_records.specs.Pairs.{Pair, ends_towards, pairs_from}
use Rattle.ojp_records.specs.declared.places.PlaceState.{PlaceState}
use Rattle.ojp_records.specs.declared.places.PlaceState.TheVariants.{Known, Unknown}
use Rattle.ojp_records.specs.Places.{ToldCheck, check_of, checks_in, reply_state, is_check, check_state, state_by, place_state, check, wanted_by_places}
use Rattle.ojp_records.specs.Starts.{Arrival, arrivals_told, arrivals_heard, is_within, arrivals, starts_after, asked_start, known_starts, moment_of, is_at_target, best}
use Rattle.ojp_records.specs.Wanted.{improving, improving_start, reach_at, wanted_at, wanted_pairs, wanted}
use Rattle.ojp_records.specs.Told.{document}
use Rattle.ojp_records.specs.Headline.{EntryGiven}

-- ---- one reply

ends_same : (table : Timetable) (o : Text) (t : ℕ) (region : Text) (targets : List Text) (xs ys : List TripResult) → Pairwise (TargetAnswered table o t) targets xs → Pairwise (TargetAnswered table o t) targets ys
    → arrivals_told region targets xs ≡ arrivals_told region targets ys
ends_same table o t region [] xs ys p q = refl
ends_same table o t region (d ∷ targets) [] ys p q = absurd p
ends_same table o t region (d ∷ targets) (x ∷ xs) [] p q = absurd q
ends_same table o t region (d ∷ targets) (results.Trip x ∷ xs) (results.Trip y ∷ ys) p q =
    let low : x.end ≤ y.end = p.0.earliest y.end y.legs q.0.journey in
    let high : y.end ≤ x.end = q.0.earliest x.end x.legs p.0.journey in
    let same : x.end ≡ y.end = omega (arith, low, high) in
    ap (λ (n : ℕ). record { stop = d; region = region; moment = n } ∷ arrivals_told region targets xs) same
    ∙ ap (λ (arrived : List Arrival). record { stop = d; region = region; moment = y.end } ∷ arrived) (ends_same table o t region targets xs ys p.1 q.1)
ends_same table o t region (d ∷ targets) (results.Trip x ∷ xs) (results.NoTrip y ∷ ys) p q = absurd (q.0.1 x.end x.legs p.0.journey)
ends_same table o t region (d ∷ targets) (results.NoTrip x ∷ xs) (results.Trip y ∷ ys) p q = absurd (p.0.1 y.end y.legs q.0.journey)
ends_same table o t region (d ∷ targets) (results.NoTrip x ∷ xs) (results.NoTrip y ∷ ys) p q = ends_same table o t region targets xs ys p.1 q.1

multi_same : (book : Book) (ask : TripAsk) (table : Timetable) (region stop : Text) (start : ℕ) (fault : Option Fault) (x y : Delivery)
    → MultiOutcome fault table (record { origin = stop; start = start; targets = ends_towards book ask.target stop region }) x
    → MultiOutcome fault table (record { origin = stop; start = start; targets = ends_towards book ask.target stop region }) y
    → arrivals_heard book ask (Reach region stop start) (Some x) ≡ arrivals_heard book ask (Reach region stop start) (Some y)
multi_same book ask table region stop start (Some fault) x y p q = ap (λ (d : Delivery). arrivals_heard book ask (Reach region stop start) (Some d)) (p ∙ sym q)
multi_same book ask table region stop start None x y p q =
    ap (λ (d : Delivery). arrivals_heard book ask (Reach region stop start) (Some d)) p.1
    ∙ (ends_same table stop start region (ends_towards book ask.target stop region) p.0 q.0 p.2 q.2 ∙ sym (ap (λ (d : Delivery). arrivals_heard book ask (Reach region stop start) (Some d)) q.1))

-- the arrivals are the same
arrivals_same : (book : Book) (ask : TripAsk) (table : Timetable) (query : Query) (x y : Delivery) → RegionAnswers table (document book ask query) x → RegionAnswers table (document book ask query) y
    → arrivals_heard book ask query (Some x) ≡ arrivals_heard book ask query (Some y)
arrivals_same book ask table (Check region stop) x y p q = refl
arrivals_same book ask table (Reach region stop start) x y p q = multi_same book ask table region stop start (targets_fault table stop (ends_towards book ask.target stop region)) x y p q

place_by : (stop : Text) (b : Bool) (P Q : Delivery → Type 0) (x y : Delivery) → ((d : Delivery) → P d → reply_state (Some d) ≡ Known) → ((d : Delivery) → Q d → reply_state (Some d) ≡ Unknown) → MatchBool b (P x) (Q x) → MatchBool b (P y) (Q y)
    → reply_state (Some x) ≡ reply_state (Some y)
place_by stop true P Q x y known unknown p q = known x p ∙ sym (known y q)
place_by stop false P Q x y known unknown p q = unknown x p ∙ sym (unknown y q)

-- a place is known by both or by none
place_same : (book : Book) (ask : TripAsk) (table : Timetable) (region stop : Text) (x y : Delivery) → RegionAnswers table (document book ask (Check region stop)) x → RegionAnswers table (document book ask (Check region stop)) y
    → reply_state (Some x) ≡ reply_state (Some y)
place_same book ask table region stop x y p q =
    place_by stop (has table stop) (λ (d : Delivery). (events : List Event) × AreEvents table (record { stop = stop; start = ask.start; kind = Departure; number = 1 }) events × (d ≡ deliveries.Events (events_replies.Events events)))
    (λ (d : Delivery). d ≡ deliveries.Events (events_replies.Fault (faults.StopUnknown stop))) x y (λ d it. ap (λ (r : Delivery). reply_state (Some r)) it.2) (λ d e. ap (λ (r : Delivery). reply_state (Some r)) e) p q

-- ---- entries

-- the entries are of one query, and tell the same arrivals and the same of its place
pub record EntryAlike (book : Book) (ask : TripAsk) (x y : Entry) : Type 0 where
  pub query : x.query ≡ y.query
  pub arrivals : arrivals_heard book ask x.query x.reply ≡ arrivals_heard book ask y.query y.reply
  pub place : (region stop : Text) → x.query ≡ Check region stop → reply_state x.reply ≡ reply_state y.reply

abbrev pub Alike : Book → TripAsk → List Entry → List Entry → Type 0
Alike book ask xs ys = Pairwise (EntryAlike book ask) xs ys

-- two replies that the timetables give to one query
pub given_alike : (tables : List Timetable) (book : Book) (ask : TripAsk) (query : Query) (x y : Delivery) → AreTables tables → EntryGiven tables book ask (record { query = query; reply = Some x }) → EntryGiven tables book ask (record { query = query; reply = Some y })
    → EntryAlike book ask (record { query = query; reply = Some x }) (record { query = query; reply = Some y })
given_alike tables book ask query x y are p q =
    let one : q.0 ≡ p.0 = are.one_each q.0 p.0 q.1 p.1 (q.2 ∙ sym p.2) in
    let other : RegionAnswers p.0 (document book ask query) y = subst (λ (t : Timetable). RegionAnswers t (document book ask query) y) one q.3 in
    record {
      query = refl;
      arrivals = arrivals_same book ask p.0 query x y p.3 other;
      place = λ region stop e.
          place_same book ask p.0 region stop x y (subst (λ (r : Query). RegionAnswers p.0 (document book ask r) x) e p.3) (subst (λ (r : Query). RegionAnswers p.0 (document book ask r) y) e other);
    }

-- ---- records

told_same : (book : Book) (ask : TripAsk) (xs ys : List Entry) → Alike book ask xs ys → (query : Query) → is_told xs query ≡ is_told ys query
unfolding is_told
told_same book ask [] [] all query = refl
told_same book ask [] (y ∷ ys) all query = absurd all
told_same book ask (x ∷ xs) [] all query = absurd all
told_same book ask (x ∷ xs) (y ∷ ys) all query =
    ap (λ (q : Query). same_query q query || list_any (λ (entry : Entry). same_query entry.query query) xs) all.0.query ∙ ap (λ (b : Bool). same_query y.query query || b) (told_same book ask xs ys all.1 query)

heard_same : (book : Book) (ask : TripAsk) (xs ys : List Entry) → Alike book ask xs ys
    → flat_map (λ (entry : Entry). arrivals_heard book ask entry.query entry.reply) xs ≡ flat_map (λ (entry : Entry). arrivals_heard book ask entry.query entry.reply) ys
heard_same book ask [] [] all = refl
heard_same book ask [] (y ∷ ys) all = absurd all
heard_same book ask (x ∷ xs) [] all = absurd all
heard_same book ask (x ∷ xs) (y ∷ ys) all =
    ap (λ (arrived : List Arrival). arrived ++ flat_map (λ (entry : Entry). arrivals_heard book ask entry.query entry.reply) xs) all.0.arrivals
    ∙ ap (λ (arrived : List Arrival). arrivals_heard book ask y.query y.reply ++ arrived) (heard_same book ask xs ys all.1)

all_arrivals : (book : Book) (ask : TripAsk) (xs ys : List Entry) → Alike book ask xs ys → arrivals book ask xs ≡ arrivals book ask ys
unfolding arrivals
all_arrivals book ask xs ys all = ap (filter (is_within ask)) (heard_same book ask xs ys all)

-- one more told check
check_more : (q : Query) (r s : Option Delivery) (region stop : Text) (before after : List ToldCheck) → ((code place : Text) → q ≡ Check code place → reply_state r ≡ reply_state s) → check_state before region stop ≡ check_state after region stop
    → check_state (cons_option (check_of q r) before) region stop ≡ check_state (cons_option (check_of q s) after) region stop
check_more (Reach code place start) r s region stop before after same rest = rest
check_more (Check code place) r s region stop before after same rest =
    ap (λ (p : PlaceState). cond (is_check region stop (record { region = code; stop = place; reply = r })) p (check_state before region stop)) (same code place refl)
    ∙ ap (λ (p : PlaceState). cond (is_check region stop (record { region = code; stop = place; reply = s })) (reply_state s) p) rest

checks_same : (book : Book) (ask : TripAsk) (xs ys : List Entry) → Alike book ask xs ys → (region stop : Text) → check_state (checks_in xs) region stop ≡ check_state (checks_in ys) region stop
unfolding checks_in
checks_same book ask [] [] all region stop = refl
checks_same book ask [] (y ∷ ys) all region stop = absurd all
checks_same book ask (x ∷ xs) [] all region stop = absurd all
checks_same book ask (x ∷ xs) (y ∷ ys) all region stop =
    check_more x.query x.reply y.reply region stop (filter_map (λ (entry : Entry). check_of entry.query entry.reply) xs) (filter_map (λ (entry : Entry). check_of entry.query entry.reply) ys) all.0.place (checks_same book ask xs ys all.1 region stop)
    ∙ ap (λ (q : Query). check_state (cons_option (check_of q y.reply) (filter_map (λ (entry : Entry). check_of entry.query entry.reply) ys)) region stop) all.0.query

state_same : (book : Book) (before after : List ToldCheck) (stop : Text) (code : Option Text) → ((region place : Text) → check_state before region place ≡ check_state after region place) → state_by book before stop code ≡ state_by book after stop code
state_same book before after stop None same = refl
state_same book before after stop (Some code) same = ap (λ (p : PlaceState). cond (has_region book code) p Unknown) (same code stop)

places_same : (book : Book) (ask : TripAsk) (xs ys : List Entry) → Alike book ask xs ys → (stop : Text) → place_state book (checks_in xs) stop ≡ place_state book (checks_in ys) stop
unfolding place_state
places_same book ask xs ys all stop = state_same book (checks_in xs) (checks_in ys) stop (home stop) (checks_same book ask xs ys all)

improving_same : (book : Book) (ask : TripAsk) (xs ys : List Entry) → Alike book ask xs ys → (pair : Pair) → improving_start book ask xs pair ≡ improving_start book ask ys pair
unfolding improving_start known_starts best
improving_same book ask xs ys all pair =
    ap
    (λ (arrived : List Arrival). improving ask (least (map moment_of (filter (is_at_target ask) arrived))) (ends_towards book ask.target pair.stop pair.region)
    (least (asked_start book ask pair.stop pair.region ++ flat_map (starts_after book pair.stop pair.region) arrived)))
    (all_arrivals book ask xs ys all)

at_same : (xs ys : List Entry) (pair : Pair) (start : Option ℕ) → ((query : Query) → is_told xs query ≡ is_told ys query) → wanted_at xs pair start ≡ wanted_at ys pair start
at_same xs ys pair None same = refl
at_same xs ys pair (Some start) same = ap (λ (b : Bool). cond b None (Some (reach_at pair start))) (same (reach_at pair start))

pairs_same : (book : Book) (ask : TripAsk) (xs ys : List Entry) → Alike book ask xs ys → wanted_pairs book ask xs ≡ wanted_pairs book ask ys
unfolding wanted_pairs
pairs_same book ask xs ys all = λ i. filter_map (λ pair. here pair i) (pairs_from book ask.origin)
  where
    here : (pair : Pair) → wanted_at xs pair (improving_start book ask xs pair) ≡ wanted_at ys pair (improving_start book ask ys pair)
    here pair = at_same xs ys pair (improving_start book ask xs pair) (told_same book ask xs ys all) ∙ ap (wanted_at ys pair) (improving_same book ask xs ys all pair)

-- they want the same
pub wanted_same : (book : Book) (ask : TripAsk) (xs ys : List Entry) → Alike book ask xs ys → wanted book ask xs ≡ wanted book ask ys
unfolding wanted
wanted_same book ask xs ys all = λ i. wanted_by_places (check ask.origin) (check ask.target) (pairs_same book ask xs ys all i) (places_same book ask xs ys all ask.origin i) (places_same book ask xs ys all ask.target i)
