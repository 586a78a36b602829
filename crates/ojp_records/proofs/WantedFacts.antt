-- What makes a query wanted.
use Rattle.std.proofs.Common.{◌≡◌, ℕ, Bool, true, false, cond, List, [], ◌∷◌, map, Option, Some, None, refl, sym, ◌∙◌, ap, subst, inl, inr}
use Rattle.ojp_values.specs.Lists.{Among, least}
use Rattle.ojp_values.specs.Texts.{Text, home}
use Rattle.ojp_values.specs.declared.asks.TripAsk.{TripAsk}
use Rattle.ojp_exchange.specs.Book.{Book, Spot, has_region}
use Rattle.ojp_records.specs.declared.queries.Query.{Query}
use Rattle.ojp_records.specs.declared.queries.Query.TheVariants.{Check, Reach}
use Rattle.ojp_records.specs.declared.queries.Entry.{Entry}
use Rattle.ojp_records.specs.Records.{is_told}
use Rattle.ojp_records.specs.Starts.{known_starts, best}
use Rattle.ojp_records.specs.Wanted.{can_improve, improving, improving_start, reach_at, wanted_at, wanted_pairs, wanted, Improves, PairWanted}
use Rattle.ojp_values.proofs.ListFacts.{Member, among_map, among_filter_map, among_filter_map_back, least_among}
use Rattle.ojp_records.proofs.StartFacts.{known_starts_more}
use Rattle.ojp_records.proofs.PlaceFacts.{PlacesWant, OriginCheck, TargetCheck, AtPair, places_want, wanted_of_places}
use Rattle.ojp_records.specs.Pairs.{ends_towards, Pair, pair_lt, placed, with_own, pair_of, pairs_from}
use Rattle.ojp_records.specs.Places.{place_state, checks_in, check_by, check}
use Rattle.ojp_records.specs.Told.{IsOpenQuery}

if_some : {X : Type 0} (b : Bool) (x y : X) → cond b (Some x) None ≡ Some y → (b ≡ true) × (x ≡ y)
if_some true x y e = (refl, cc)
if_some false x y e = absurd (cc)

improving_some : (ask : TripAsk) (arrival : Option ℕ) (list : List Text) (least_start : Option ℕ) (start : ℕ) → improving ask arrival list least_start ≡ Some start → ((target : Text) × Among target list) × (least_start ≡ Some start) × (can_improve ask arrival start ≡ true)
improving_some ask arrival [] least_start start e = absurd (cc)
improving_some ask arrival (target ∷ more) None start e = absurd (cc)
improving_some ask arrival (target ∷ more) (Some known) start e =
    let both : (can_improve ask arrival known ≡ true) × (known ≡ start) = if_some (can_improve ask arrival known) known start e in
    ((target, inl refl), ap Some both.1, subst (λ (n : ℕ). can_improve ask arrival n ≡ true) both.1 both.0)

pub improves_is : (book : Book) (ask : TripAsk) (told : List Entry) (pair : Pair) (start : ℕ) → improving_start book ask told pair ≡ Some start → Improves book ask told pair start
unfolding improving_start
improves_is book ask told pair start e =
    let parts : ((target : Text) × Among target (ends_towards book ask.target pair.stop pair.region)) × (least (known_starts book ask told pair.stop pair.region) ≡ Some start) × (can_improve ask (best book ask told) start ≡ true) =
    improving_some ask (best book ask told) (ends_towards book ask.target pair.stop pair.region) (least (known_starts book ask told pair.stop pair.region)) start e in
    record { target = parts.0.0; has_target = parts.0.1; is_least = parts.1; can = parts.2 }

improving_at : (ask : TripAsk) (arrival : Option ℕ) (list : List Text) (target : Text) (start : ℕ) → Among target list → can_improve ask arrival start ≡ true → improving ask arrival list (Some start) ≡ Some start
improving_at ask arrival [] target start h e = absurd h
improving_at ask arrival (first ∷ more) target start h e = ap (λ (b : Bool). cond b (Some start) None) e

pub is_improving : (book : Book) (ask : TripAsk) (told : List Entry) (pair : Pair) (start : ℕ) → Improves book ask told pair start → improving_start book ask told pair ≡ Some start
unfolding improving_start
is_improving book ask told pair start it =
    ap (improving ask (best book ask told) (ends_towards book ask.target pair.stop pair.region)) it.is_least
    ∙ improving_at ask (best book ask told) (ends_towards book ask.target pair.stop pair.region) it.target start it.has_target it.can

if_none : {X : Type 0} (b : Bool) (x y : X) → cond b None (Some x) ≡ Some y → (b ≡ false) × (x ≡ y)
if_none true x y e = absurd (cc)
if_none false x y e = (refl, cc)

pub wanted_start : (told : List Entry) (pair : Pair) (start : Option ℕ) (query : Query) → wanted_at told pair start ≡ Some query → (n : ℕ) × (start ≡ Some n) × (query ≡ reach_at pair n) × (is_told told query ≡ false)
wanted_start told pair None query e = absurd (cc)
wanted_start told pair (Some n) query e =
    let both : (is_told told (reach_at pair n) ≡ false) × (reach_at pair n ≡ query) = if_none (is_told told (reach_at pair n)) (reach_at pair n) query e in
    (n, refl, sym both.1, subst (λ (q : Query). is_told told q ≡ false) both.1 both.0)

pub pair_wanted : (book : Book) (ask : TripAsk) (told : List Entry) (query : Query) → Among query (wanted_pairs book ask told) → PairWanted book ask told query
unfolding wanted_pairs
pair_wanted book ask told query h =
    let m : Member (pairs_from book ask.origin) (λ (pair : Pair). wanted_at told pair (improving_start book ask told pair) ≡ Some query) =
    among_filter_map_back (λ (pair : Pair). wanted_at told pair (improving_start book ask told pair)) query (pairs_from book ask.origin) h in
    let it : (n : ℕ) × (improving_start book ask told m.item ≡ Some n) × (query ≡ reach_at m.item n) × (is_told told query ≡ false) =
    wanted_start told m.item (improving_start book ask told m.item) query m.holds in
    record { pair = m.item; start = it.0; listed = m.among; is = it.2; improves = improves_is book ask told m.item it.0 it.1; untold = it.3 }

pub is_pair_wanted : (book : Book) (ask : TripAsk) (told : List Entry) (pair : Pair) (start : ℕ) → Among pair (pairs_from book ask.origin) → Improves book ask told pair start → is_told told (reach_at pair start) ≡ false → Among (reach_at pair start) (wanted_pairs book ask told)
unfolding wanted_pairs
is_pair_wanted book ask told pair start listed it untold =
    among_filter_map (λ (p : Pair). wanted_at told p (improving_start book ask told p)) pair (reach_at pair start) (pairs_from book ask.origin) listed
    (ap (wanted_at told pair) (is_improving book ask told pair start it) ∙ ap (λ (b : Bool). cond b None (Some (reach_at pair start))) untold)

-- the cases of what is wanted
abbrev pub WantedBy : Book → TripAsk → List Entry → Query → Type 0
WantedBy book ask told query =
    PlacesWant (check ask.origin) (check ask.target) (wanted_pairs book ask told) (place_state book (checks_in told) ask.origin) (place_state book (checks_in told) ask.target) query

pub wanted_by : (book : Book) (ask : TripAsk) (told : List Entry) (query : Query) → Among query (wanted book ask told) → WantedBy book ask told query
unfolding wanted
wanted_by book ask told query h =
    places_want (check ask.origin) (check ask.target) (wanted_pairs book ask told) (place_state book (checks_in told) ask.origin) (place_state book (checks_in told) ask.target) query h

pub is_wanted_by : (book : Book) (ask : TripAsk) (told : List Entry) (query : Query) → WantedBy book ask told query → Among query (wanted book ask told)
unfolding wanted
is_wanted_by book ask told query it =
    wanted_of_places (check ask.origin) (check ask.target) (wanted_pairs book ask told) (place_state book (checks_in told) ask.origin) (place_state book (checks_in told) ask.target) query it

-- the check of a stop, by its region
check_cases : (stop : Text) (code : Option Text) (query : Query) → Among query (check_by stop code) → (region : Text) × (code ≡ Some region) × (query ≡ Check region stop)
check_cases stop None query h = absurd h
check_cases stop (Some region) query (inl e) = (region, refl, e)
check_cases stop (Some region) query (inr none) = absurd none

pub check_is : (stop : Text) (query : Query) → Among query (check stop) → (region : Text) × (home stop ≡ Some region) × (query ≡ Check region stop)
check_is stop query h = check_cases stop (home stop) query h

-- pairs

if_either : {X : Type 0} (b : Bool) (x : X) (xs ys : List X) → Among x xs → Among x ys → Among x (cond b xs ys)
if_either true x xs ys h i = h
if_either false x xs ys h i = i

placed_itself : (p : Pair) (qs : List Pair) → Among p (placed p qs)
placed_itself p [] = inl refl
placed_itself p (q ∷ qs) = if_either (pair_lt p q) p _ _ (inl refl) (inr (placed_itself p qs))

placed_other : (p x : Pair) (qs : List Pair) → Among x qs → Among x (placed p qs)
placed_other p x [] h = absurd h
placed_other p x (q ∷ qs) (inl e) = if_either (pair_lt p q) x _ _ (inr (inl e)) (inl e)
placed_other p x (q ∷ qs) (inr h) = if_either (pair_lt p q) x _ _ (inr (inr h)) (inr (placed_other p x qs h))

with_own_other : (book : Book) (origin : Text) (code : Option Text) (x : Pair) (qs : List Pair) → Among x qs → Among x (with_own book origin code qs)
with_own_other book origin None x qs h = h
with_own_other book origin (Some code) x qs h = if_either (has_region book code) x _ _ (placed_other _ x qs h) h

pub spot_pair : (book : Book) (begin : Text) (spot : Spot) → Among spot book.spots → Among (pair_of spot) (pairs_from book begin)
unfolding pairs_from
spot_pair book begin spot h = with_own_other book begin (home begin) (pair_of spot) (map pair_of book.spots) (among_map pair_of spot book.spots h)

pair_at : Text → Text → Pair
pair_at stop region = record { stop = stop; region = region }

with_own_itself : (book : Book) (own region : Text) (code : Option Text) (qs : List Pair) → code ≡ Some region → has_region book region ≡ true → Among (pair_at own region) (with_own book own code qs)
unfolding pair_at
with_own_itself book own region None qs e known = absurd (cc)
with_own_itself book own region (Some code) qs e known =
    let same_code : code ≡ region = cc in
    subst (λ (c : Text). Among (pair_at own region) (with_own book own (Some c) qs)) (sym same_code)
    (subst (λ (b : Bool). Among (pair_at own region) (cond b (placed (pair_at own region) qs) qs)) (sym known) (placed_itself (pair_at own region) qs))

pub own_pair : (book : Book) (begin region : Text) → home begin ≡ Some region → has_region book region ≡ true → Among (record { stop = begin; region = region }) (pairs_from book begin)
unfolding pairs_from pair_at
own_pair book begin region e known = with_own_itself book begin region (home begin) (map pair_of book.spots) e known

-- the start of a query that was open is known
pub open_start : (book : Book) (ask : TripAsk) (told : List Entry) (region stop : Text) (start : ℕ) → IsOpenQuery book ask told (Reach region stop start) → Among start (known_starts book ask told stop region)
open_start book ask told region stop start it =
    subst (λ (record_now : List Entry). Among start (known_starts book ask record_now stop region)) it.split
    (known_starts_more book ask it.before it.since stop region start (go (wanted_by book ask it.before (Reach region stop start) it.was_wanted)))
  where
    no_check : (place : Text) → Among (Reach region stop start) (check place) → ⊥
    no_check place h =
        let is : (code : Text) × (home place ≡ Some code) × (Reach region stop start ≡ Check code place) = check_is place (Reach region stop start) h in
        let same_query : Reach region stop start ≡ Check is.0 place = is.2 in
        cc

    at_pair : PairWanted book ask it.before (Reach region stop start) → Among start (known_starts book ask it.before stop region)
    at_pair w =
        let is : Reach region stop start ≡ Reach w.pair.region w.pair.stop w.start = w.is in
        let regions : w.pair.region ≡ region = cc in
        let stops : w.pair.stop ≡ stop = cc in
        let starts : w.start ≡ start = cc in
        let known : Among w.start (known_starts book ask it.before w.pair.stop w.pair.region) = least_among w.start _ w.improves.is_least in
        subst (λ (n : ℕ). Among n (known_starts book ask it.before stop region)) starts
        (subst (λ (s : Text). Among w.start (known_starts book ask it.before s region)) stops
        (subst (λ (r : Text). Among w.start (known_starts book ask it.before w.pair.stop r)) regions known))

    go : WantedBy book ask it.before (Reach region stop start) → Among start (known_starts book ask it.before stop region)
    go (OriginCheck o h) = absurd (no_check ask.origin h)
    go (TargetCheck known t h) = absurd (no_check ask.target h)
    go (AtPair o t h) = at_pair (pair_wanted book ask it.before (Reach region stop start) h)
