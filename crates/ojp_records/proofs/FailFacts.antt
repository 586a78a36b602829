-- Where a wanted query fails, just it is wanted no more.
use Rattle.std.proofs.Common.{◌≡◌, ◌≢◌, ℕ, Bool, true, false, cond, not, ◌||◌, List, [], ◌∷◌, ◌++◌, map, Option, Some, None, refl, sym, ◌∙◌, ap, append-nil}
use Rattle.std.proofs.lemmas.Bool.{and_parts}
use Rattle.std.specs.List.{filter, filter_map, flat_map, cons_option}
use Rattle.ojp_values.specs.Lists.{Among, least}
use Rattle.ojp_values.specs.Texts.{Text, same, home}
use Rattle.ojp_values.specs.declared.asks.TripAsk.{TripAsk}
use Rattle.ojp_timetable.proofs.TextFacts.{same_is}
use Rattle.ojp_exchange.specs.Book.{Book, has_region}
use Rattle.ojp_records.specs.declared.queries.Query.{Query}
use Rattle.ojp_records.specs.declared.queries.Query.TheVariants.{Check, Reach}
use Rattle.ojp_records.specs.declared.queries.Entry.{Entry}
use Rattle.ojp_records.specs.Records.{same_query, is_told}
use Rattle.ojp_records.specs.Places.{checks_in, PlaceState, Known, Unknown, Unheard, CheckFailed, is_check, check_state, state_by, place_state, check_by, check, wanted_by_places}
use Rattle.ojp_records.specs.Pairs.{Pair, pairs_from, ends_towards}
use Rattle.ojp_records.specs.Starts.{Arrival, arrivals, starts_after, asked_start, known_starts, best, moment_of, is_at_target}
use Rattle.ojp_records.specs.Wanted.{improving, improving_start, reach_at, wanted_at, wanted_pairs, wanted}
use Rattle.ojp_records.specs.Laws.{FailureDropsOne}
use Rattle.ojp_records.proofs.RecordFacts.{same_query_is, is_same_query}
use Rattle.ojp_records.proofs.PlaceFacts.{OriginCheck, TargetCheck, AtPair, check_is_it, first_heard, state_append, state_more, unheard_check}
use Rattle.ojp_records.proofs.WantedFacts.{WantedBy, wanted_by, check_is}
use Rattle.ojp_records.proofs.BoardFacts.{filter_append, arrivals_append, is_told_append, unheard_place}

-- the entry of a failure
abbrev failure_of : Query → Entry
failure_of query = record { query = query; reply = None }

-- not the query
abbrev is_other : Query → Query → Bool
is_other query x = not (same_query query x)

-- ---- starts do not change by a failure

none_heard : (book : Book) (ask : TripAsk) (query : Query) → arrivals book ask (failure_of query ∷ []) ≡ []
unfolding arrivals
none_heard book ask (Check region stop) = refl
none_heard book ask (Reach region stop start) = refl

arrivals_same : (book : Book) (ask : TripAsk) (told : List Entry) (query : Query) → arrivals book ask (told ++ failure_of query ∷ []) ≡ arrivals book ask told
arrivals_same book ask told query =
    arrivals_append book ask told (failure_of query ∷ []) ∙ (ap (λ xs. arrivals book ask told ++ xs) (none_heard book ask query) ∙ append-nil (arrivals book ask told))

starts_same : (book : Book) (ask : TripAsk) (told : List Entry) (query : Query) (stop region : Text) → known_starts book ask (told ++ failure_of query ∷ []) stop region ≡ known_starts book ask told stop region
unfolding known_starts
starts_same book ask told query stop region = ap (λ xs. asked_start book ask stop region ++ flat_map (starts_after book stop region) xs) (arrivals_same book ask told query)

best_same : (book : Book) (ask : TripAsk) (told : List Entry) (query : Query) → best book ask (told ++ failure_of query ∷ []) ≡ best book ask told
unfolding best
best_same book ask told query = ap (λ (xs : List Arrival). least (map moment_of (filter (is_at_target ask) xs))) (arrivals_same book ask told query)

start_same : (book : Book) (ask : TripAsk) (told : List Entry) (query : Query) (pair : Pair) → improving_start book ask (told ++ failure_of query ∷ []) pair ≡ improving_start book ask told pair
unfolding improving_start
start_same book ask told query pair =
    ap (λ b. improving ask b (ends_towards book ask.target pair.stop pair.region) (least (known_starts book ask (told ++ failure_of query ∷ []) pair.stop pair.region))) (best_same book ask told query)
    ∙ ap (λ s. improving ask (best book ask told) (ends_towards book ask.target pair.stop pair.region) (least s)) (starts_same book ask told query pair.stop pair.region)

-- ---- pairs

abbrev kept : (Query → Bool) → Option Query → Option Query
kept P None = None
kept P (Some x) = cond (P x) (Some x) None

kept_step : (a s : Bool) (r : Query) (P : Query → Bool) → P r ≡ not s → cond (a || s) None (Some r) ≡ kept P (cond a None (Some r))
kept_step true s r P e = refl
kept_step false true r P e = sym (ap (λ b. cond b (Some r) None) e)
kept_step false false r P e = sym (ap (λ b. cond b (Some r) None) e)

or_none : (a : Bool) → (a || false) ≡ a
or_none true = refl
or_none false = refl

alone : (query x : Query) → is_told (failure_of query ∷ []) x ≡ same_query query x
unfolding is_told
alone query x = or_none (same_query query x)

told_or : (told : List Entry) (query x : Query) → is_told (told ++ failure_of query ∷ []) x ≡ (is_told told x || same_query query x)
told_or told query x = is_told_append told (failure_of query ∷ []) x ∙ ap (λ b. is_told told x || b) (alone query x)

wanted_at_kept : (told : List Entry) (query : Query) (pair : Pair) (start : Option ℕ) → wanted_at (told ++ failure_of query ∷ []) pair start ≡ kept (is_other query) (wanted_at told pair start)
wanted_at_kept told query pair None = refl
wanted_at_kept told query pair (Some n) =
    ap (λ (b : Bool). cond b None (Some (reach_at pair n))) (told_or told query (reach_at pair n))
    ∙ kept_step (is_told told (reach_at pair n)) (same_query query (reach_at pair n)) (reach_at pair n) (is_other query) refl

cons_kept : (P : Query → Bool) (b : Bool) (y : Query) (ys : List Query) → cond b (y ∷ ys) ys ≡ cons_option (cond b (Some y) None) ys
cons_kept P true y ys = refl
cons_kept P false y ys = refl

filter_cons : (P : Query → Bool) (o : Option Query) (ys : List Query) → filter P (cons_option o ys) ≡ cons_option (kept P o) (filter P ys)
filter_cons P None ys = refl
filter_cons P (Some y) ys = cons_kept P (P y) y (filter P ys)

filter_mapped : (P : Query → Bool) (f g : Pair → Option Query) → ((p : Pair) → g p ≡ kept P (f p)) → (ps : List Pair) → filter_map g ps ≡ filter P (filter_map f ps)
filter_mapped P f g e [] = refl
filter_mapped P f g e (p ∷ ps) =
    ap (λ o. cons_option o (filter_map g ps)) (e p) ∙ (ap (cons_option (kept P (f p))) (filter_mapped P f g e ps) ∙ sym (filter_cons P (f p) (filter_map f ps)))

pairs_kept : (book : Book) (ask : TripAsk) (told : List Entry) (query : Query) → wanted_pairs book ask (told ++ failure_of query ∷ []) ≡ filter (is_other query) (wanted_pairs book ask told)
unfolding wanted_pairs
pairs_kept book ask told query =
    filter_mapped (is_other query) (λ pair. wanted_at told pair (improving_start book ask told pair))
    (λ pair. wanted_at (told ++ failure_of query ∷ []) pair (improving_start book ask (told ++ failure_of query ∷ []) pair))
    (λ pair. ap (wanted_at (told ++ failure_of query ∷ []) pair) (start_same book ask told query pair) ∙ wanted_at_kept told query pair (improving_start book ask told pair))
    (pairs_from book ask.origin)

-- ---- states

-- what the failure of a check tells of a place by itself
check_alone : (book : Book) (stop region other code : Text) → home other ≡ Some code → has_region book code ≡ true → place_state book (checks_in (failure_of (Check region stop) ∷ [])) other ≡ cond (is_check code other (record { region = region; stop = stop; reply = None })) CheckFailed Unheard
unfolding place_state checks_in
check_alone book stop region other code at known =
    ap (state_by book (record { region = region; stop = stop; reply = None } ∷ []) other) at
    ∙ ap (λ (b : Bool). cond b (check_state (record { region = region; stop = stop; reply = None } ∷ []) code other) Unknown) known

-- an unheard place, with what a failure tells
unheard_then : (book : Book) (told : List Entry) (query : Query) (stop : Text) → place_state book (checks_in told) stop ≡ Unheard → place_state book (checks_in (told ++ failure_of query ∷ [])) stop ≡ place_state book (checks_in (failure_of query ∷ [])) stop
unheard_then book told query stop e =
    state_append book told (failure_of query ∷ []) stop ∙ ap (λ (s : PlaceState). first_heard s (place_state book (checks_in (failure_of query ∷ [])) stop)) e

-- the check that failed
now_failed : (book : Book) (told : List Entry) (query : Query) (stop region : Text) → home stop ≡ Some region → place_state book (checks_in told) stop ≡ Unheard → query ≡ Check region stop → place_state book (checks_in (told ++ failure_of query ∷ [])) stop ≡ CheckFailed
now_failed book told query stop region at e same_one =
    unheard_then book told query stop e
    ∙ (ap (λ (q : Query). place_state book (checks_in (failure_of q ∷ [])) stop) same_one
    ∙ (check_alone book stop region stop region at (unheard_place book (checks_in told) stop region at e).0
    ∙ ap (λ (b : Bool). cond b CheckFailed Unheard) (check_is_it region stop (record { region = region; stop = stop; reply = None }) refl refl)))

false_by : (b : Bool) → (b ≡ true → ⊥) → b ≡ false
false_by true never = absurd (never refl)
false_by false never = refl

other_check : (stop region other code : Text) → stop ≢ other → is_check code other (record { region = region; stop = stop; reply = None }) ≡ false
other_check stop region other code apart = false_by (is_check code other (record { region = region; stop = stop; reply = None })) (λ t. apart (same_is stop other (and_parts (same region code) (same stop other) t).1))

-- another unheard place stays so
stays_unheard : (book : Book) (told : List Entry) (query : Query) (stop region other : Text) → query ≡ Check region stop → stop ≢ other → place_state book (checks_in told) other ≡ Unheard → place_state book (checks_in (told ++ failure_of query ∷ [])) other ≡ Unheard
stays_unheard book told query stop region other same_one apart e =
    let own : (code : Text) × Among (Check code other) (check other) = unheard_check book (checks_in told) other e in
    let at : (code : Text) × (home other ≡ Some code) × (Check own.0 other ≡ Check code other) = check_is other (Check own.0 other) own.1 in
    unheard_then book told query other e
    ∙ (ap (λ (q : Query). place_state book (checks_in (failure_of q ∷ [])) other) same_one
    ∙ (check_alone book stop region other at.0 at.1 (unheard_place book (checks_in told) other at.0 at.1 e).0
    ∙ ap (λ (b : Bool). cond b CheckFailed Unheard) (other_check stop region other at.0 apart)))

-- a state that a failure of another check leaves as it is
state_stays : (book : Book) (told : List Entry) (query : Query) (stop region other : Text) (s : PlaceState) → query ≡ Check region stop → stop ≢ other → place_state book (checks_in told) other ≡ s → place_state book (checks_in (told ++ failure_of query ∷ [])) other ≡ s
state_stays book told query stop region other Unheard e apart is = stays_unheard book told query stop region other e apart is
state_stays book told query stop region other Known e apart is = state_more book told (failure_of query ∷ []) other Known (λ x. cc) is
state_stays book told query stop region other Unknown e apart is = state_more book told (failure_of query ∷ []) other Unknown (λ x. cc) is
state_stays book told query stop region other CheckFailed e apart is = state_more book told (failure_of query ∷ []) other CheckFailed (λ x. cc) is

-- ---- checks

own_check : (query : Query) (stop region : Text) (at : Option Text) → at ≡ Some region → query ≡ Check region stop → filter (is_other query) (check_by stop at) ≡ []
own_check query stop region None e same_one = absurd (cc)
own_check query stop region (Some code) e same_one =
    let codes : code ≡ region = cc in
    ap (λ (b : Bool). cond (not b) (Check code stop ∷ []) []) (is_same_query query (Check code stop) (same_one ∙ ap (λ (c : Text). Check c stop) (sym codes)))

other_query : (query : Query) (region stop code other : Text) → query ≡ Check region stop → stop ≢ other → same_query query (Check code other) ≡ false
other_query query region stop code other e apart =
    false_by (same_query query (Check code other)) (λ t. let checks : Check region stop ≡ Check code other = sym e ∙ same_query_is query (Check code other) t in apart (cc))

others_check : (query : Query) (stop region other : Text) (at : Option Text) → query ≡ Check region stop → stop ≢ other → filter (is_other query) (check_by other at) ≡ check_by other at
others_check query stop region other None e apart = refl
others_check query stop region other (Some code) e apart =
    ap (λ (b : Bool). cond (not b) (Check code other ∷ []) []) (other_query query region stop code other e apart)

-- ---- the law

-- the origin's check failed
origin_fails : (origin target : Text) (rest later : List Query) (query : Query) (region : Text) (t : PlaceState)
    → query ≡ Check region origin → home origin ≡ Some region → origin ≢ target
    → wanted_by_places (check origin) (check target) later CheckFailed t ≡ filter (is_other query) (wanted_by_places (check origin) (check target) rest Unheard t)
origin_fails origin target rest later query region Unheard e at apart =
    sym (filter_append (is_other query) (check origin) (check target)
    ∙ (ap (λ xs. xs ++ filter (is_other query) (check target)) (own_check query origin region (home origin) at e)
    ∙ others_check query origin region target (home target) e apart))
origin_fails origin target rest later query region Known e at apart = sym (own_check query origin region (home origin) at e)
origin_fails origin target rest later query region Unknown e at apart = sym (own_check query origin region (home origin) at e)
origin_fails origin target rest later query region CheckFailed e at apart = sym (own_check query origin region (home origin) at e)

-- the target's check failed
target_fails : (origin target : Text) (rest later : List Query) (query : Query) (region : Text) (o : PlaceState) → o ≢ Unknown
    → query ≡ Check region target → home target ≡ Some region → target ≢ origin
    → wanted_by_places (check origin) (check target) later o CheckFailed ≡ filter (is_other query) (wanted_by_places (check origin) (check target) rest o Unheard)
target_fails origin target rest later query region Unknown known e at apart = absurd (known refl)
target_fails origin target rest later query region Unheard known e at apart =
    sym (filter_append (is_other query) (check origin) (check target)
    ∙ (ap (λ xs. filter (is_other query) (check origin) ++ xs) (own_check query target region (home target) at e)
    ∙ (append-nil (filter (is_other query) (check origin)) ∙ others_check query target region origin (home origin) e apart)))
target_fails origin target rest later query region Known known e at apart = sym (own_check query target region (home target) at e)
target_fails origin target rest later query region CheckFailed known e at apart = sym (own_check query target region (home target) at e)

wanted_by_states : (book : Book) (ask : TripAsk) (told : List Entry) (o t : PlaceState) → place_state book (checks_in told) ask.origin ≡ o → place_state book (checks_in told) ask.target ≡ t → wanted book ask told ≡ wanted_by_places (check ask.origin) (check ask.target) (wanted_pairs book ask told) o t
unfolding wanted
wanted_by_states book ask told o t e f =
    ap (λ s. wanted_by_places (check ask.origin) (check ask.target) (wanted_pairs book ask told) s (place_state book (checks_in told) ask.target)) e
    ∙ ap (wanted_by_places (check ask.origin) (check ask.target) (wanted_pairs book ask told) o) f

drops_by : (book : Book) (ask : TripAsk) (told : List Entry) (query : Query) → ask.origin ≢ ask.target → WantedBy book ask told query
    → wanted book ask (told ++ failure_of query ∷ []) ≡ filter (is_other query) (wanted book ask told)
drops_by book ask told query differ (OriginCheck o h) =
    let it : (region : Text) × (home ask.origin ≡ Some region) × (query ≡ Check region ask.origin) = check_is ask.origin query h in
    wanted_by_states book ask (told ++ failure_of query ∷ []) CheckFailed (place_state book (checks_in told) ask.target)
    (now_failed book told query ask.origin it.0 it.1 o it.2) (state_stays book told query ask.origin it.0 ask.target (place_state book (checks_in told) ask.target) it.2 differ refl)
    ∙ (origin_fails ask.origin ask.target (wanted_pairs book ask told) (wanted_pairs book ask (told ++ failure_of query ∷ [])) query it.0 (place_state book (checks_in told) ask.target) it.2 it.1 differ
    ∙ ap (filter (is_other query)) (sym (wanted_by_states book ask told Unheard (place_state book (checks_in told) ask.target) o refl)))
drops_by book ask told query differ (TargetCheck known t h) =
    let it : (region : Text) × (home ask.target ≡ Some region) × (query ≡ Check region ask.target) = check_is ask.target query h in
    wanted_by_states book ask (told ++ failure_of query ∷ []) (place_state book (checks_in told) ask.origin) CheckFailed
    (state_stays book told query ask.target it.0 ask.origin (place_state book (checks_in told) ask.origin) it.2 (λ e. differ (sym e)) refl) (now_failed book told query ask.target it.0 it.1 t it.2)
    ∙ (target_fails ask.origin ask.target (wanted_pairs book ask told) (wanted_pairs book ask (told ++ failure_of query ∷ [])) query it.0 (place_state book (checks_in told) ask.origin) known it.2 it.1 (λ e. differ (sym e))
    ∙ ap (filter (is_other query)) (sym (wanted_by_states book ask told (place_state book (checks_in told) ask.origin) Unheard refl t)))
drops_by book ask told query differ (AtPair o t h) =
    wanted_by_states book ask (told ++ failure_of query ∷ []) Known Known
    (state_more book told (failure_of query ∷ []) ask.origin Known (λ x. cc) o) (state_more book told (failure_of query ∷ []) ask.target Known (λ x. cc) t)
    ∙ (pairs_kept book ask told query ∙ ap (filter (is_other query)) (sym (wanted_by_states book ask told Known Known o t)))

pub failure_drops_one : FailureDropsOne
failure_drops_one book ask told query differ h = drops_by book ask told query differ (wanted_by book ask told query h)
