-- Where nothing is wanted, each end of a search means what it says.
use Rattle.std.proofs.Common.{◌≡◌, ◌≢◌, ℕ, ◌≤◌, Bool, true, false, if◌then◌else◌, ◌⊎◌, List, [], ◌∷◌, Option, Some, None, refl, sym, ◌∙◌, ap, subst, inl, inr, arith}
use Rattle.ojp_values.specs.Lists.{Among, Each, least}
use Rattle.ojp_values.specs.Texts.{Text, text_lt, home}
use Rattle.ojp_values.specs.declared.asks.TripAsk.{TripAsk}
use Rattle.ojp_values.specs.declared.trips.Leg.{Leg}
use Rattle.ojp_timetable.specs.Tables.{Timetable}
use Rattle.ojp_timetable.specs.Journeys.{Arrives}
use Rattle.std.specs.List.{filter_map}
use Rattle.ojp_exchange.specs.Book.{Book}
use Rattle.ojp_records.specs.declared.queries.Query.{Query}
use Rattle.ojp_records.specs.declared.queries.Query.TheVariants.{Check, Reach}
use Rattle.ojp_records.specs.declared.queries.Entry.{Entry}
use Rattle.ojp_records.specs.Records.{is_failed, Failed}
use Rattle.ojp_records.specs.Starts.{known_starts, best}
use Rattle.ojp_records.specs.Wanted.{improving_start, reach_at, wanted_pairs, wanted, Improves, PairWanted}
use Rattle.ojp_records.specs.Ends.{failed_check, failed_checks, failed_at, failed_pairs, lesser_text, least_text, fault_by, fault, PlaceFailed, PairFailed}
use Rattle.ojp_records.specs.Headline.{AreTablesOf, EntryGiven, NoTripIsRight, EndMeans}
use Rattle.ojp_values.proofs.ListFacts.{Member, among_append, among_append_left, among_append_right, among_filter_map, among_filter_map_back}
use Rattle.ojp_timetable.proofs.FormFacts.{to_stepwise}
use Rattle.ojp_records.proofs.StartFacts.{BestBelow}
use Rattle.ojp_records.proofs.PlaceFacts.{PlaceBy, ByPoint, NoRegion, ByCheck, place_by, FailedCheck, failed_check_of, unheard_check, checks_given, known_is, unknown_is, check_entry, known_unknown, known_failed, OriginCheck, TargetCheck, AtPair}
use Rattle.ojp_records.proofs.RecordFacts.{failed_is, is_failed_is, failed_state, OpenAt, open_at}
use Rattle.ojp_records.proofs.WantedFacts.{improves_is, is_improving, pair_wanted, WantedBy, wanted_by, is_wanted_by, check_is}
use Rattle.ojp_records.specs.Chains.{Chained}
use Rattle.ojp_records.proofs.ChainFacts.{chains_are_journeys}
use Rattle.ojp_records.proofs.Chained.{best_is_chained}
use Rattle.ojp_records.proofs.Complete.{IsSettled, journey_not_before}
use Rattle.ojp_records.specs.Places.{PlaceState, Known, Unknown, Unheard, CheckFailed, check_state, place_state, checks_in, check, wanted_by_places}
use Rattle.ojp_records.specs.Pairs.{Pair, pairs_from}
use Rattle.ojp_records.specs.Told.{IsRecord}
use Rattle.ojp_records.specs.Laws.{EndIsRight}
use Rattle.ojp_timetable.specs.GatewayAnswers.{IsPlace, HasNoJourney, IsEarliest}

-- the premises of the law on ends
record IsEnded (tables : List Timetable) (book : Book) (ask : TripAsk) (told : List Entry) : Type 0 where
  whole : AreTablesOf tables book
  differ : ask.origin ≢ ask.target
  told_well : IsRecord book ask told
  given : Each (EntryGiven tables book ask) told
  no_wanted : wanted book ask told ≡ []

-- a trip: the best arrival is the earliest

best_arrives : (tables : List Timetable) (book : Book) (ask : TripAsk) (told : List Entry) (arrival : ℕ) → IsEnded tables book ask told → best book ask told ≡ Some arrival → Arrives tables ask.origin ask.start ask.target arrival
best_arrives tables book ask told arrival ended e =
    let chained : (legs : List Leg) × Chained book ask told legs arrival = best_is_chained book ask told arrival ended.told_well e in
    (chained.0, chains_are_journeys tables book ask told chained.0 arrival ended.whole ended.differ ended.given chained.1)

settled : (tables : List Timetable) (book : Book) (ask : TripAsk) (told : List Entry) → IsEnded tables book ask told → wanted_pairs book ask told ≡ [] → failed_pairs book ask told ≡ [] → IsSettled tables book ask told
settled tables book ask told ended no_pairs no_failed =
    record {
      whole = ended.whole;
      told_well = ended.told_well;
      given = ended.given;
      no_wanted = no_pairs;
      no_failed = no_failed;
    }

not_before : (tables : List Timetable) (book : Book) (ask : TripAsk) (told : List Entry) (other : ℕ) → IsEnded tables book ask told → wanted_pairs book ask told ≡ [] → failed_pairs book ask told ≡ [] → Arrives tables ask.origin ask.start ask.target other → BestBelow book ask told other
not_before tables book ask told other ended no_pairs no_failed (legs, journey) =
    journey_not_before tables book ask told other (settled tables book ask told ended no_pairs no_failed) legs (to_stepwise tables ask.origin ask.start ask.target other legs ended.whole.tables_well journey)

trip_end : (tables : List Timetable) (book : Book) (ask : TripAsk) (told : List Entry) (arrival : ℕ) → IsEnded tables book ask told → wanted_pairs book ask told ≡ [] → failed_pairs book ask told ≡ [] → best book ask told ≡ Some arrival → IsEarliest tables ask arrival
trip_end tables book ask told arrival ended no_pairs no_failed e = (
  best_arrives tables book ask told arrival ended e,
  λ other journey.
      let below : BestBelow book ask told other =
      not_before tables book ask told other ended no_pairs no_failed journey in
      let same_value : Some arrival ≡ Some below.value = sym e ∙ below.is in
      let values : arrival ≡ below.value = cc in
      let low : below.value ≤ other = below.below in
      omega arith,
)

no_journey : (tables : List Timetable) (book : Book) (ask : TripAsk) (told : List Entry) → IsEnded tables book ask told → wanted_pairs book ask told ≡ [] → failed_pairs book ask told ≡ [] → best book ask told ≡ None → HasNoJourney tables ask
no_journey tables book ask told ended no_pairs no_failed e other journey =
    let below : BestBelow book ask told other =
    not_before tables book ask told other ended no_pairs no_failed journey in
    let none : None ≡ Some below.value = sym e ∙ below.is in
    cc

-- places

place_known : (tables : List Timetable) (book : Book) (ask : TripAsk) (told : List Entry) (stop : Text) → IsEnded tables book ask told → place_state book (checks_in told) stop ≡ Known → IsPlace tables stop
place_known tables book ask told stop ended e = known_is tables book (checks_in told) ask.start ended.whole (checks_given tables book ask told ended.given) stop e

place_unknown : (tables : List Timetable) (book : Book) (ask : TripAsk) (told : List Entry) (stop : Text) → IsEnded tables book ask told → place_state book (checks_in told) stop ≡ Unknown → IsPlace tables stop → ⊥
place_unknown tables book ask told stop ended e = unknown_is tables book (checks_in told) ask.start ended.whole (checks_given tables book ask told ended.given) stop e

-- a place whose state says that its check failed
place_failed : (book : Book) (told : List Entry) (stop : Text) → place_state book (checks_in told) stop ≡ CheckFailed → (region : Text) × PlaceFailed told stop region
place_failed book told stop e =
    let it : FailedCheck (checks_in told) stop = failed_check_of book (checks_in told) stop e in
    let entry : Member told (λ (x : Entry). (x.query ≡ Check it.told.item.region it.told.item.stop) × (x.reply ≡ it.told.item.reply)) = check_entry told it.told.item it.told.among in
    (it.code, (it.own, (entry.item, entry.among, entry.holds.0 ∙ (ap (λ (x : Text). Check x it.told.item.stop) it.told.holds.0 ∙ ap (λ (x : Text). Check it.code x) it.told.holds.1), entry.holds.1 ∙ it.no_reply)))

same_home : (told : List Entry) (stop code region : Text) → home stop ≡ Some region → PlaceFailed told stop code → PlaceFailed told stop region
same_home told stop code region own failed =
    let both : Some code ≡ Some region = sym failed.0 ∙ own in
    let codes : code ≡ region = cc in
    subst (λ (c : Text). PlaceFailed told stop c) codes failed

nothing : {X : Type 0} (x : X) (xs : List X) → xs ≡ [] → Among x xs → ⊥
nothing x xs e h = subst (Among x) e h

origin_heard : (tables : List Timetable) (book : Book) (ask : TripAsk) (told : List Entry) → IsEnded tables book ask told → place_state book (checks_in told) ask.origin ≢ Unheard
origin_heard tables book ask told ended e =
    let it : (region : Text) × Among (Check region ask.origin) (check ask.origin) = unheard_check book (checks_in told) ask.origin e in
    nothing (Check it.0 ask.origin) (wanted book ask told) ended.no_wanted (is_wanted_by book ask told (Check it.0 ask.origin) (OriginCheck e it.1))

target_heard : (tables : List Timetable) (book : Book) (ask : TripAsk) (told : List Entry) → IsEnded tables book ask told → place_state book (checks_in told) ask.origin ≢ Unknown → place_state book (checks_in told) ask.target ≢ Unheard
target_heard tables book ask told ended known e =
    let it : (region : Text) × Among (Check region ask.target) (check ask.target) = unheard_check book (checks_in told) ask.target e in
    nothing (Check it.0 ask.target) (wanted book ask told) ended.no_wanted (is_wanted_by book ask told (Check it.0 ask.target) (TargetCheck known e it.1))

-- the regions of failed checks

among_failed : (s : PlaceState) (code : Option Text) (region : Text) → Among region (failed_check s code) → (s ≡ CheckFailed) × (code ≡ Some region)
among_failed CheckFailed (Some code) region (inl e) = (refl, ap Some (sym e))
among_failed CheckFailed (Some code) region (inr none) = absurd none
among_failed s code region h = absurd h

failed_among : (s : PlaceState) (code : Option Text) (region : Text) → s ≡ CheckFailed → code ≡ Some region → Among region (failed_check s code)
failed_among CheckFailed (Some code) region e own = let codes : code ≡ region = cc in inl (sym codes)
failed_among CheckFailed None region e own = absurd (cc)
failed_among Known code region e own = absurd (cc)
failed_among Unknown code region e own = absurd (cc)
failed_among Unheard code region e own = absurd (cc)

pub failed_check_is : (book : Book) (ask : TripAsk) (told : List Entry) (region : Text) → Among region (failed_checks book ask told) → PlaceFailed told ask.origin region ⊎ PlaceFailed told ask.target region
unfolding failed_checks
failed_check_is book ask told region h =
    elim (among_append region (failed_check (place_state book (checks_in told) ask.origin) (home ask.origin)) (failed_check (place_state book (checks_in told) ask.target) (home ask.target)) h) [
      | inl first ↦
          let both : (place_state book (checks_in told) ask.origin ≡ CheckFailed) × (home ask.origin ≡ Some region) = among_failed (place_state book (checks_in told) ask.origin) (home ask.origin) region first in
          inl (same_home told ask.origin (place_failed book told ask.origin both.0).0 region both.1 (place_failed book told ask.origin both.0).1)
      | inr second ↦
          let both : (place_state book (checks_in told) ask.target ≡ CheckFailed) × (home ask.target ≡ Some region) = among_failed (place_state book (checks_in told) ask.target) (home ask.target) region second in
          inr (same_home told ask.target (place_failed book told ask.target both.0).0 region both.1 (place_failed book told ask.target both.0).1)
    ]

origin_failed_among : (book : Book) (ask : TripAsk) (told : List Entry) → place_state book (checks_in told) ask.origin ≡ CheckFailed → failed_checks book ask told ≡ [] → ⊥
unfolding failed_checks
origin_failed_among book ask told e none =
    let own : (region : Text) × PlaceFailed told ask.origin region = place_failed book told ask.origin e in
    nothing own.0 _ none
    (among_append_left own.0 (failed_check (place_state book (checks_in told) ask.origin) (home ask.origin)) (failed_check (place_state book (checks_in told) ask.target) (home ask.target))
    (failed_among (place_state book (checks_in told) ask.origin) (home ask.origin) own.0 e own.1.0))

target_failed_among : (book : Book) (ask : TripAsk) (told : List Entry) → place_state book (checks_in told) ask.target ≡ CheckFailed → failed_checks book ask told ≡ [] → ⊥
unfolding failed_checks
target_failed_among book ask told e none =
    let own : (region : Text) × PlaceFailed told ask.target region = place_failed book told ask.target e in
    nothing own.0 _ none
    (among_append_right own.0 (failed_check (place_state book (checks_in told) ask.origin) (home ask.origin)) (failed_check (place_state book (checks_in told) ask.target) (home ask.target))
    (failed_among (place_state book (checks_in told) ask.target) (home ask.target) own.0 e own.1.0))

least_text_step : (x : Text) (xs : List Text) (o : Option Text) (least_one : Text) → ((y : Text) → o ≡ Some y → Among y xs) → lesser_text x o ≡ least_one → Among least_one (x ∷ xs)
least_text_step x xs None least_one later e = inl (sym e)
least_text_step x xs (Some y) least_one later e = go (text_lt y x) e
  where
    go : (b : Bool) → (if b then y else x) ≡ least_one → Among least_one (x ∷ xs)
    go true is = inr (later least_one (ap Some is))
    go false is = inl (sym is)

pub least_text_among : (xs : List Text) (least_one : Text) → least_text xs ≡ Some least_one → Among least_one xs
least_text_among [] least_one e = absurd (cc)
least_text_among (x ∷ xs) least_one e =
    let is : lesser_text x (least_text xs) ≡ least_one = cc in
    let later : (y : Text) → least_text xs ≡ Some y → Among y xs = λ y. least_text_among xs y in
    least_text_step x xs (least_text xs) least_one later is

least_text_none : (xs : List Text) → least_text xs ≡ None → xs ≡ []
least_text_none [] e = refl
least_text_none (x ∷ xs) e = absurd (cc)

-- pairs that failed

failed_start : (told : List Entry) (pair : Pair) (start : Option ℕ) (region : Text) → failed_at told pair start ≡ Some region → (n : ℕ) × (start ≡ Some n) × (is_failed told (reach_at pair n) ≡ true) × (pair.region ≡ region)
failed_start told pair None region e = absurd (cc)
failed_start told pair (Some n) region e = go (is_failed told (reach_at pair n)) refl e
  where
    go : (b : Bool) → is_failed told (reach_at pair n) ≡ b → (if b then Some pair.region else None) ≡ Some region → (m : ℕ) × (Some n ≡ Some m) × (is_failed told (reach_at pair m) ≡ true) × (pair.region ≡ region)
    go true is e' = (n, refl, is, cc)
    go false is e' = absurd (cc)

pub failed_pair_is : (book : Book) (ask : TripAsk) (told : List Entry) (region : Text) → Among region (failed_pairs book ask told) → PairFailed book ask told region
unfolding failed_pairs
failed_pair_is book ask told region h =
    let m : Member (pairs_from book ask.origin) (λ (pair : Pair). failed_at told pair (improving_start book ask told pair) ≡ Some region) =
    among_filter_map_back (λ (pair : Pair). failed_at told pair (improving_start book ask told pair)) region (pairs_from book ask.origin) h in
    let it : (n : ℕ) × (improving_start book ask told m.item ≡ Some n) × (is_failed told (reach_at m.item n) ≡ true) × (m.item.region ≡ region) =
    failed_start told m.item (improving_start book ask told m.item) region m.holds in
    let improves : Improves book ask told m.item it.0 = improves_is book ask told m.item it.0 it.1 in
    record {
      stop = m.item.stop;
      start = it.0;
      is_least = subst (λ (r : Text). least (known_starts book ask told m.item.stop r) ≡ Some it.0) it.3 improves.is_least;
      can = improves.can;
      failed = subst (λ (r : Text). Failed told (Reach r m.item.stop it.0)) it.3 (failed_is told (reach_at m.item it.0) it.2);
    }

-- a failed pair that stands is listed, since its query was wanted before it was told
pair_failed_listed : (book : Book) (ask : TripAsk) (told : List Entry) (region : Text) → IsRecord book ask told → PairFailed book ask told region → Among region (failed_pairs book ask told)
unfolding failed_pairs
pair_failed_listed book ask told region well it = go (wanted_by book ask opened.open_then.before (Reach region it.stop it.start) was)
  where
    entry : Entry
    entry = it.failed.0

    opened : OpenAt book ask told entry
    opened = open_at book ask [] told entry well.in_turn it.failed.1

    was : Among (Reach region it.stop it.start) (wanted book ask opened.open_then.before)
    was = subst (λ (q : Query). Among q (wanted book ask opened.open_then.before)) it.failed.2 opened.open_then.was_wanted

    no_check : (place : Text) → Among (Reach region it.stop it.start) (check place) → ⊥
    no_check place h =
        let is : (code : Text) × (home place ≡ Some code) × (Reach region it.stop it.start ≡ Check code place) = check_is place (Reach region it.stop it.start) h in
        let same_query : Reach region it.stop it.start ≡ Check is.0 place = is.2 in
        cc

    at_pair : PairWanted book ask opened.open_then.before (Reach region it.stop it.start) → Among region (filter_map (λ (pair : Pair). failed_at told pair (improving_start book ask told pair)) (pairs_from book ask.origin))
    at_pair w =
        let is : Reach region it.stop it.start ≡ Reach w.pair.region w.pair.stop w.start = w.is in
        let regions : region ≡ w.pair.region = cc in
        let stops : it.stop ≡ w.pair.stop = cc in
        let least_now : least (known_starts book ask told w.pair.stop w.pair.region) ≡ Some it.start =
        subst (λ (r : Text). least (known_starts book ask told w.pair.stop r) ≡ Some it.start) regions
        (subst (λ (s : Text). least (known_starts book ask told s region) ≡ Some it.start) stops it.is_least) in
        let failed : Failed told (reach_at w.pair it.start) =
        subst (λ (r : Text). Failed told (Reach r w.pair.stop it.start)) regions (subst (λ (s : Text). Failed told (Reach region s it.start)) stops it.failed) in
        let improves : Improves book ask told w.pair it.start =
        record { target = w.improves.target; has_target = w.improves.has_target; is_least = least_now; can = it.can } in
        among_filter_map (λ (pair : Pair). failed_at told pair (improving_start book ask told pair)) w.pair region (pairs_from book ask.origin) w.listed
        (ap (failed_at told w.pair) (is_improving book ask told w.pair it.start improves)
        ∙ (ap (λ (b : Bool). if b then Some w.pair.region else None) (is_failed_is told (reach_at w.pair it.start) failed) ∙ ap Some (sym regions)))

    go : WantedBy book ask opened.open_then.before (Reach region it.stop it.start) → Among region (filter_map (λ (pair : Pair). failed_at told pair (improving_start book ask told pair)) (pairs_from book ask.origin))
    go (OriginCheck o h) = absurd (no_check ask.origin h)
    go (TargetCheck known t h) = absurd (no_check ask.target h)
    go (AtPair o t h) = at_pair (pair_wanted book ask opened.open_then.before (Reach region it.stop it.start) h)

-- a place that is known has no failed check
known_not_failed : (book : Book) (ask : TripAsk) (told : List Entry) (stop region : Text) → IsRecord book ask told → place_state book (checks_in told) stop ≡ Known → PlaceFailed told stop region → ⊥
known_not_failed book ask told stop region well e (home_is, failed) = go (place_by book (checks_in told) stop Known e)
  where
    go : PlaceBy book (checks_in told) stop Known → ⊥
    go (ByPoint own is) = let none : None ≡ Some region = sym own ∙ home_is in cc
    go (NoRegion code own lacks is) = known_unknown (sym is)
    go (ByCheck code own known is) =
        let both : Some code ≡ Some region = sym own ∙ home_is in
        let codes : code ≡ region = cc in
        known_failed (sym is ∙ (ap (λ (c : Text). check_state (checks_in told) c stop) codes ∙ failed_state book ask [] told region stop well.in_turn failed))

-- both places are known, unless one is unknown or its check failed
state_known : (s : PlaceState) → s ≢ Unknown → s ≢ Unheard → s ≢ CheckFailed → s ≡ Known
state_known Known a b c = refl
state_known Unknown a b c = absurd (a refl)
state_known Unheard a b c = absurd (b refl)
state_known CheckFailed a b c = absurd (c refl)

record AreKnown (book : Book) (ask : TripAsk) (told : List Entry) : Type 0 where
  origin : place_state book (checks_in told) ask.origin ≡ Known
  target : place_state book (checks_in told) ask.target ≡ Known
  no_pairs : wanted_pairs book ask told ≡ []

pairs_wanted : (book : Book) (ask : TripAsk) (told : List Entry) → place_state book (checks_in told) ask.origin ≡ Known → place_state book (checks_in told) ask.target ≡ Known → wanted book ask told ≡ [] → wanted_pairs book ask told ≡ []
unfolding wanted
pairs_wanted book ask told o t e =
    subst (λ (s : PlaceState). wanted_by_places (check ask.origin) (check ask.target) (wanted_pairs book ask told) Known s ≡ []) t (subst (λ (s : PlaceState). wanted_by_places (check ask.origin) (check ask.target) (wanted_pairs book ask told) s (place_state book (checks_in told) ask.target) ≡ []) o e)

are_known : (tables : List Timetable) (book : Book) (ask : TripAsk) (told : List Entry) → IsEnded tables book ask told → place_state book (checks_in told) ask.origin ≢ Unknown → place_state book (checks_in told) ask.target ≢ Unknown → failed_checks book ask told ≡ [] → AreKnown book ask told
are_known tables book ask told ended origin_known target_known no_failed_check =
    let o : place_state book (checks_in told) ask.origin ≡ Known =
    state_known (place_state book (checks_in told) ask.origin) origin_known (origin_heard tables book ask told ended) (λ e. origin_failed_among book ask told e no_failed_check) in
    let t : place_state book (checks_in told) ask.target ≡ Known =
    state_known (place_state book (checks_in told) ask.target) target_known (target_heard tables book ask told ended origin_known) (λ e. target_failed_among book ask told e no_failed_check) in
    record { origin = o; target = t; no_pairs = pairs_wanted book ask told o t ended.no_wanted }

no_trip : (tables : List Timetable) (book : Book) (ask : TripAsk) (told : List Entry) → IsEnded tables book ask told → AreKnown book ask told → failed_pairs book ask told ≡ [] → best book ask told ≡ None → NoTripIsRight tables book ask told ask.target
no_trip tables book ask told ended known no_failed e =
    record {
      is_target = refl;
      origin = place_known tables book ask told ask.origin ended known.origin;
      target = place_known tables book ask told ask.target ended known.target;
      no_journey = no_journey tables book ask told ended known.no_pairs no_failed e;
      no_failure = λ region stands. elim stands [
        | inl (inl at_origin) ↦ known_not_failed book ask told ask.origin region ended.told_well known.origin at_origin
        | inl (inr at_target) ↦ known_not_failed book ask told ask.target region ended.told_well known.target at_target
        | inr at_pair ↦ nothing region _ no_failed (pair_failed_listed book ask told region ended.told_well at_pair)
      ];
    }

-- an origin that is not unknown is a place, or its check failed
origin_or_failed : (tables : List Timetable) (book : Book) (ask : TripAsk) (told : List Entry) (s : PlaceState) → IsEnded tables book ask told → place_state book (checks_in told) ask.origin ≡ s → s ≢ Unknown → IsPlace tables ask.origin ⊎ ((region : Text) × PlaceFailed told ask.origin region)
origin_or_failed tables book ask told Known ended e known = inl (place_known tables book ask told ask.origin ended e)
origin_or_failed tables book ask told Unknown ended e known = absurd (known refl)
origin_or_failed tables book ask told Unheard ended e known = absurd (origin_heard tables book ask told ended e)
origin_or_failed tables book ask told CheckFailed ended e known =
    inr (place_failed book told ask.origin e)

at_state : (s t : PlaceState) → s ≡ t → t ≢ Unknown → s ≢ Unknown
at_state s t e n h = n (sym e ∙ h)

ends :
    (tables : List Timetable) (book : Book) (ask : TripAsk) (told : List Entry) (origin target : PlaceState) (check_failed pair_failed : Option Text) (arrival : Option ℕ)
    → IsEnded tables book ask told → place_state book (checks_in told) ask.origin ≡ origin → place_state book (checks_in told) ask.target ≡ target
    → least_text (failed_checks book ask told) ≡ check_failed → least_text (failed_pairs book ask told) ≡ pair_failed → best book ask told ≡ arrival
    → EndMeans tables book ask told (fault_by ask.origin ask.target origin target check_failed pair_failed arrival)
ends tables book ask told Unknown target check_failed pair_failed arrival ended o t c p b =
    record { no_place = place_unknown tables book ask told ask.origin ended o; which = inl refl }
ends tables book ask told origin Unknown check_failed pair_failed arrival ended o t c p b =
    record { no_place = place_unknown tables book ask told ask.target ended t; which = inr (refl, origin_or_failed tables book ask told origin ended o (λ e. cc)) }
ends tables book ask told origin target (Some region) pair_failed arrival ended o t c p b =
    inl (failed_check_is book ask told region (least_text_among (failed_checks book ask told) region c))
ends tables book ask told origin target None (Some region) arrival ended o t c p b =
    inr (failed_pair_is book ask told region (least_text_among (failed_pairs book ask told) region p))
ends tables book ask told origin target None None (Some arrival) ended o t c p b =
    let known : AreKnown book ask told =
    are_known tables book ask told ended (at_state _ origin o (λ e. cc)) (at_state _ target t (λ e. cc)) (least_text_none (failed_checks book ask told) c) in
    (arrival, b, trip_end tables book ask told arrival ended known.no_pairs (least_text_none (failed_pairs book ask told) p) b)
ends tables book ask told origin target None None None ended o t c p b =
    let known : AreKnown book ask told =
    are_known tables book ask told ended (at_state _ origin o (λ e. cc)) (at_state _ target t (λ e. cc)) (least_text_none (failed_checks book ask told) c) in
    no_trip tables book ask told ended known (least_text_none (failed_pairs book ask told) p) b

pub end_is_right : EndIsRight
unfolding fault
end_is_right tables book ask told whole differ well given no_wanted =
    ends tables book ask told (place_state book (checks_in told) ask.origin) (place_state book (checks_in told) ask.target) (least_text (failed_checks book ask told)) (least_text (failed_pairs book ask told)) (best book ask told)
    (record { whole = whole; differ = differ; told_well = well; given = given; no_wanted = no_wanted }) refl refl refl refl refl

-- ---- a search that ends with a trip

-- both places are known, where there is no fault
both_known :
    (tables : List Timetable) (book : Book) (ask : TripAsk) (told : List Entry) (origin target : PlaceState) (check_failed pair_failed : Option Text) (arrival : Option ℕ)
    → IsEnded tables book ask told → place_state book (checks_in told) ask.origin ≡ origin → place_state book (checks_in told) ask.target ≡ target
    → least_text (failed_checks book ask told) ≡ check_failed
    → fault_by ask.origin ask.target origin target check_failed pair_failed arrival ≡ None → AreKnown book ask told
both_known tables book ask told Unknown target check_failed pair_failed arrival ended o t c e = absurd (cc)
both_known tables book ask told origin Unknown check_failed pair_failed arrival ended o t c e = absurd (cc)
both_known tables book ask told origin target (Some region) pair_failed arrival ended o t c e = absurd (cc)
both_known tables book ask told origin target None (Some region) arrival ended o t c e = absurd (cc)
both_known tables book ask told origin target None None (Some arrival) ended o t c e =
    are_known tables book ask told ended (at_state _ origin o (λ e. cc)) (at_state _ target t (λ e. cc)) (least_text_none (failed_checks book ask told) c)
both_known tables book ask told origin target None None None ended o t c e = absurd (cc)

-- where a search ends with a trip, both of its places are places of the timetables
pub trip_places :
    (tables : List Timetable) (book : Book) (ask : TripAsk) (told : List Entry)
    → AreTablesOf tables book → ask.origin ≢ ask.target → IsRecord book ask told → Each (EntryGiven tables book ask) told → wanted book ask told ≡ []
    → fault book ask told ≡ None → IsPlace tables ask.origin × IsPlace tables ask.target
unfolding fault
trip_places tables book ask told whole differ well given no_wanted e =
    let ended : IsEnded tables book ask told = record { whole = whole; differ = differ; told_well = well; given = given; no_wanted = no_wanted } in
    let known : AreKnown book ask told =
    both_known tables book ask told (place_state book (checks_in told) ask.origin) (place_state book (checks_in told) ask.target) (least_text (failed_checks book ask told)) (least_text (failed_pairs book ask told)) (best book ask told)
    ended refl refl refl e in
    (place_known tables book ask told ask.origin ended known.origin, place_known tables book ask told ask.target ended known.target)
