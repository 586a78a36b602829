-- What is wanted at the numbers is what the record wants, and what the board keeps says what it is.
use Rattle.std.proofs.Common.{◌≡◌, ◌≢◌, ℕ, zero, suc, ◌+◌, ◌-◌, ◌<◌, ◌≤◌, Bool, true, false, not, cond, ◌&&◌, ◌⊎◌, List, [], ◌∷◌, ◌++◌, map, Option, Some, None, length, get_or, take, drop, refl, sym, ◌∙◌, ap, subst, inl, inr, arith, slice_get, IsTrue, is_some}
use Rattle.std.specs.Prelude.{IfSome, MatchBool}
use Rattle.std.specs.List.{filter_map, cons_option}
use Rattle.std.proofs.lemmas.Bool.{true≢false}
use Rattle.std.proofs.lemmas.List.{take_more, take_all, take-append-drop, drop_more, append-nil, length-map}
use Rattle.std.proofs.lemmas.Option.{none-some, same_Some, slice_get-get_or}
use Rattle.ojp_values.specs.Lists.{Among, Each, Pairwise, least}
use Rattle.ojp_values.specs.Texts.{Text, home, is_stop_ref}
use Rattle.ojp_values.specs.declared.asks.TripAsk.{TripAsk}
use Rattle.ojp_exchange.specs.Book.{Book, Spot, has_region}
use Rattle.ojp_exchange.specs.Kept.{IsWellBook}
use Rattle.ojp_exchange.specs.Places.{IsSpotAt, IsPairAt}
use Rattle.ojp_exchange.proofs.SpotFacts.{one_place}
use Rattle.ojp_records.specs.declared.queries.Query.{Query}
use Rattle.ojp_records.specs.declared.queries.Query.TheVariants.{Check, Reach}
use Rattle.ojp_records.specs.declared.queries.Entry.{Entry}
use Rattle.ojp_records.specs.Records.{same_query, is_told}
use Rattle.ojp_records.specs.declared.places.PlaceState.{PlaceState}
use Rattle.ojp_records.specs.declared.places.PlaceState.TheVariants.{Known, Unknown, Unheard, CheckFailed}
use Rattle.ojp_records.specs.Places.{checks_in, check_state, state_by, place_state, check_by, check, wanted_by_places}
use Rattle.ojp_records.specs.Pairs.{Pair, pair_of, pairs_from, ends_towards}
use Rattle.ojp_records.specs.Starts.{arrivals, known_starts, best}
use Rattle.ojp_records.specs.Wanted.{can_improve, improving, improving_start, reach_at, wanted_at, wanted_pairs, wanted, IsFirstNew, IsNext}
use Rattle.ojp_records.proofs.RecordFacts.{same_query_is, is_same_query}
use Rattle.ojp_records.proofs.WantedFacts.{wanted_start}
use Rattle.ojp_records.proofs.OwnPair.{own_first, no_own}
use Rattle.ojp_labels.specs.declared.labels.Label.{Label}
use Rattle.ojp_labels.specs.declared.board.Board.{Board}
use Rattle.ojp_labels.specs.Slots.{somes, check_at, stop_check, origin_slot, target_slot, are_known, known_slot, pair_slot, own_pair_slot, pair_slots, slots_by, slots}
use Rattle.ojp_labels.specs.Labels.{open_at, open_start, reach_from, label_slot}
use Rattle.ojp_labels.specs.Boards.{has_any, IsLabel, AreLabels, own_spot, IsOwnLabel, IsKept, IsBoardOf, own_slot, place_slots, kept_slots}
use Rattle.ojp_labels.proofs.LabelFacts.{known_starts_by}

-- ---- the lists of what is there

somes_append : (xs ys : List (Option Query)) → somes (xs ++ ys) ≡ somes xs ++ somes ys
somes_append [] ys = refl
somes_append (None ∷ xs) ys = somes_append xs ys
somes_append (Some query ∷ xs) ys = ap (λ qs. query ∷ qs) (somes_append xs ys)

somes_none : (queries : List (Option Query)) → somes (map (known_slot false) queries) ≡ []
somes_none [] = refl
somes_none (query ∷ queries) = somes_none queries

somes_known : (queries : List (Option Query)) → somes (map (known_slot true) queries) ≡ somes queries
somes_known [] = refl
somes_known (None ∷ queries) = somes_known queries
somes_known (Some query ∷ queries) = ap (λ qs. query ∷ qs) (somes_known queries)

somes_cons : (query : Option Query) (queries : List (Option Query)) → somes (query ∷ queries) ≡ cons_option query (somes queries)
somes_cons None queries = refl
somes_cons (Some query) queries = refl

-- ---- the slots of a record

-- what is wanted of the places is what is wanted of their pairs
spots_wanted : (book : Book) (ask : TripAsk) (told : List Entry) (spots : List Spot) → somes (map (λ (spot : Spot). pair_slot book ask told (pair_of spot)) spots) ≡ filter_map (λ pair. wanted_at told pair (improving_start book ask told pair)) (map pair_of spots)
unfolding pair_slot
spots_wanted book ask told [] = refl
spots_wanted book ask told (spot ∷ spots) =
    somes_cons (pair_slot book ask told (pair_of spot)) (map (λ (it : Spot). pair_slot book ask told (pair_of it)) spots)
    ∙ ap (cons_option (pair_slot book ask told (pair_of spot))) (spots_wanted book ask told spots)

region_known : (b : Bool) (s : PlaceState) → cond b s Unknown ≡ Known → b ≡ true
region_known true s e = refl
region_known false s e = absurd (cc)

-- what is wanted of the pairs, where the origin is known
pairs_wanted : (book : Book) (ask : TripAsk) (told : List Entry) → IsWellBook book → IsTrue (is_stop_ref ask.origin) → place_state book (checks_in told) ask.origin ≡ Known
    → somes (own_pair_slot book ask told (home ask.origin) ∷ map (λ (spot : Spot). pair_slot book ask told (pair_of spot)) book.spots) ≡ wanted_pairs book ask told
unfolding wanted_pairs place_state pair_slot
pairs_wanted book ask told well ref known = go (home ask.origin) refl known
  where
    go : (code : Option Text) → home ask.origin ≡ code → state_by book (checks_in told) ask.origin code ≡ Known
        → somes (own_pair_slot book ask told code ∷ map (λ (spot : Spot). pair_slot book ask told (pair_of spot)) book.spots) ≡ filter_map (λ pair. wanted_at told pair (improving_start book ask told pair)) (pairs_from book ask.origin)
    go None own e = spots_wanted book ask told book.spots ∙ ap (filter_map (λ pair. wanted_at told pair (improving_start book ask told pair))) (sym (no_own book ask.origin own))
    go (Some code) own e =
        let member : has_region book code ≡ true = region_known (has_region book code) (check_state (checks_in told) code ask.origin) e in
        somes_cons (pair_slot book ask told (record { stop = ask.origin; region = code })) (map (λ (spot : Spot). pair_slot book ask told (pair_of spot)) book.spots)
        ∙ (ap (cons_option (pair_slot book ask told (record { stop = ask.origin; region = code }))) (spots_wanted book ask told book.spots)
        ∙ ap (filter_map (λ pair. wanted_at told pair (improving_start book ask told pair))) (sym (own_first book ask.origin code well ref own member)))

check_somes : (stop : Text) (code : Option Text) → somes (check_at stop code ∷ []) ≡ check_by stop code
check_somes stop None = refl
check_somes stop (Some code) = refl

-- what is wanted at the numbers, in their order, is what the record wants
pub slots_wanted : (book : Book) (ask : TripAsk) (told : List Entry) → IsWellBook book → IsTrue (is_stop_ref ask.origin) → somes (slots book ask told) ≡ wanted book ask told
unfolding wanted slots
slots_wanted book ask told well ref = go (place_state book (checks_in told) ask.origin) (place_state book (checks_in told) ask.target) refl
  where
    rest : List (Option Query)
    rest = own_pair_slot book ask told (home ask.origin) ∷ map (λ (spot : Spot). pair_slot book ask told (pair_of spot)) book.spots

    two : (x y : Option Query) (zs : List (Option Query)) → somes (x ∷ y ∷ zs) ≡ somes (x ∷ []) ++ (somes (y ∷ []) ++ somes zs)
    two None None zs = refl
    two None (Some y) zs = refl
    two (Some x) None zs = refl
    two (Some x) (Some y) zs = refl

    none : somes (map (known_slot false) rest) ≡ []
    none = somes_none rest

    both : (x y : Option Query) → somes (x ∷ y ∷ map (known_slot false) rest) ≡ somes (x ∷ []) ++ somes (y ∷ [])
    both x y = two x y (map (known_slot false) rest) ∙ ap (λ (qs : List Query). somes (x ∷ []) ++ qs) (ap (λ (qs : List Query). somes (y ∷ []) ++ qs) none ∙ append-nil (somes (y ∷ [])))

    first : somes (stop_check ask.origin ∷ []) ≡ check ask.origin
    first = check_somes ask.origin (home ask.origin)

    second : somes (stop_check ask.target ∷ []) ≡ check ask.target
    second = check_somes ask.target (home ask.target)

    only_first : somes (stop_check ask.origin ∷ None ∷ map (known_slot false) rest) ≡ check ask.origin
    only_first = both (stop_check ask.origin) None ∙ (append-nil (somes (stop_check ask.origin ∷ [])) ∙ first)

    only_second : somes (None ∷ stop_check ask.target ∷ map (known_slot false) rest) ≡ check ask.target
    only_second = both None (stop_check ask.target) ∙ second

    go : (o t : PlaceState) → place_state book (checks_in told) ask.origin ≡ o → somes (slots_by book ask told o t) ≡ wanted_by_places (check ask.origin) (check ask.target) (wanted_pairs book ask told) o t
    go Unknown t e = none
    go Unheard Unheard e =
        both (stop_check ask.origin) (stop_check ask.target) ∙ (ap (λ (qs : List Query). qs ++ somes (stop_check ask.target ∷ [])) first ∙ ap (λ (qs : List Query). check ask.origin ++ qs) second)
    go Unheard Known e = only_first
    go Unheard Unknown e = only_first
    go Unheard CheckFailed e = only_first
    go Known Unheard e = only_second
    go CheckFailed Unheard e = only_second
    go Known Known e = somes_known rest ∙ pairs_wanted book ask told well ref e
    go Known Unknown e = none
    go Known CheckFailed e = none
    go CheckFailed Known e = none
    go CheckFailed Unknown e = none
    go CheckFailed CheckFailed e = none

pub slots_length : (book : Book) (ask : TripAsk) (told : List Entry) → length (slots book ask told) ≡ length book.spots + 3
unfolding slots
slots_length book ask told = go (place_state book (checks_in told) ask.origin) (place_state book (checks_in told) ask.target)
  where
    go : (o t : PlaceState) → length (slots_by book ask told o t) ≡ length book.spots + 3
    go o t =
        let inner : List (Option Query) = map (λ (spot : Spot). pair_slot book ask told (pair_of spot)) book.spots in
        let rest : length inner ≡ length book.spots = length-map book.spots (λ (spot : Spot). pair_slot book ask told (pair_of spot)) in
        let kept : length (map (known_slot (are_known o t)) inner) ≡ length inner = length-map inner (known_slot (are_known o t)) in
        omega arith

-- ---- what the board keeps of each place

open_by :
    (told : List Entry) (ask : TripAsk) (arrival : Option ℕ) (stop region : Text) (change : ℕ) (label : Label) (list : List Text) (start : Option ℕ)
    → label.has_target ≡ has_any list → label.start ≡ start → ((t : ℕ) → label.start ≡ Some t → label.told ≡ is_told told (Reach region stop t))
    → wanted_at told (record { stop = stop; region = region }) (improving ask arrival list start)
    ≡ reach_from (record { stop = stop; region = region; change = change }) (open_at ask arrival (label.has_target && not label.told) start)
open_by told ask arrival stop region change label [] None e is says = refl
open_by told ask arrival stop region change label (target ∷ more) None e is says = refl
open_by told ask arrival stop region change label [] (Some start) e is says = sym (ap (λ (b : Bool). query (cond ((b && not label.told) && can_improve ask arrival start) (Some start) None)) e)
  where
    query : Option ℕ → Option Query
    query = reach_from (record { stop = stop; region = region; change = change })
open_by told ask arrival stop region change label (target ∷ more) (Some start) e is says =
    go (can_improve ask arrival start) (is_told told (Reach region stop start)) refl refl
    ∙ sym (ap (λ (b : Bool). query (cond ((b && not label.told) && can_improve ask arrival start) (Some start) None)) e
    ∙ ap (λ (b : Bool). query (cond (not b && can_improve ask arrival start) (Some start) None)) (says start is))
  where
    query : Option ℕ → Option Query
    query = reach_from (record { stop = stop; region = region; change = change })

    go : (can was : Bool) → can_improve ask arrival start ≡ can → is_told told (Reach region stop start) ≡ was
        → wanted_at told (record { stop = stop; region = region }) (cond can (Some start) None) ≡ query (cond (not (is_told told (Reach region stop start)) && can) (Some start) None)
    go true true m w = ap (λ (b : Bool). cond b None (Some (Reach region stop start))) w ∙ sym (ap (λ (b : Bool). query (cond (not b && true) (Some start) None)) w)
    go true false m w = ap (λ (b : Bool). cond b None (Some (Reach region stop start))) w ∙ sym (ap (λ (b : Bool). query (cond (not b && true) (Some start) None)) w)
    go false true m w = sym (ap (λ (b : Bool). query (cond (not b && false) (Some start) None)) w)
    go false false m w = sym (ap (λ (b : Bool). query (cond (not b && false) (Some start) None)) w)

-- the label of a pair says what is wanted of it
label_wanted :
    (book : Book) (ask : TripAsk) (told : List Entry) (spot : Spot) (label : Label) → IsLabel book ask told (arrivals book ask told) spot label
    → pair_slot book ask told (pair_of spot) ≡ label_slot ask (best book ask told) spot label
unfolding improving_start pair_slot
label_wanted book ask told spot label is =
    let starts : label.start ≡ least (known_starts book ask told spot.stop spot.region) = is.start_is ∙ ap least (sym (known_starts_by book ask told spot.stop spot.region)) in
    open_by told ask (best book ask told) spot.stop spot.region spot.change label (ends_towards book ask.target spot.stop spot.region) (least (known_starts book ask told spot.stop spot.region)) is.targets_are starts is.told_is
    ∙ ap (λ (o : Option ℕ). reach_from spot (open_at ask (best book ask told) (label.has_target && not label.told) o)) (sym starts)

-- labels one after another
pub pairwise_from : {X Y : Type 0} (R : X → Y → Type 0) (xs : List X) (ys : List Y) → length ys ≡ length xs → ((k : ℕ) (x : X) (y : Y) → slice_get xs k ≡ Some x → slice_get ys k ≡ Some y → R x y) → Pairwise R xs ys
pairwise_from R [] [] e h = tt
pairwise_from R [] (y ∷ ys) e h = absurd (omega arith)
pairwise_from R (x ∷ xs) [] e h = absurd (omega arith)
pairwise_from R (x ∷ xs) (y ∷ ys) e h = (h zero x y refl refl, pairwise_from R xs ys (omega arith) (λ k a b p q. h (suc k) a b p q))

places_are :
    (book : Book) (ask : TripAsk) (told : List Entry) (spots : List Spot) (labels : List Label) → Pairwise (IsLabel book ask told (arrivals book ask told)) spots labels
    → place_slots ask (best book ask told) spots labels ≡ map (λ (spot : Spot). pair_slot book ask told (pair_of spot)) spots
places_are book ask told [] [] h = refl
places_are book ask told [] (label ∷ labels) h = absurd h
places_are book ask told (spot ∷ spots) [] h = absurd h
places_are book ask told (spot ∷ spots) (label ∷ labels) h =
    ap (λ (o : Option Query). o ∷ place_slots ask (best book ask told) spots labels) (sym (label_wanted book ask told spot label h.0))
    ∙ ap (λ (qs : List (Option Query)). pair_slot book ask told (pair_of spot) ∷ qs) (places_are book ask told spots labels h.1)

own_is : (book : Book) (ask : TripAsk) (told : List Entry) (own : Label) (code : Option Text) → IsOwnLabel book ask told own code → own_slot ask (best book ask told) own code ≡ own_pair_slot book ask told code
own_is book ask told own None it = refl
own_is book ask told own (Some code) it = sym (label_wanted book ask told (own_spot ask.origin code) own it)

-- what the board keeps says what is wanted at the numbers
pub kept_are : (book : Book) (board : Board) → IsBoardOf board book → kept_slots book board ≡ slots book board.ask board.told.items
unfolding slots
kept_are book board is =
    ap (λ (s : PlaceState). with_states s board.target (kept board.best)) is.origin_is
    ∙ (ap (λ (s : PlaceState). with_states (place_state book (checks_in told) ask.origin) s (kept board.best)) is.target_is
    ∙ ap (with_states (place_state book (checks_in told) ask.origin) (place_state book (checks_in told) ask.target)) rest_is)
  where
    told : List Entry
    told = board.told.items

    ask : TripAsk
    ask = board.ask

    with_states : PlaceState → PlaceState → List (Option Query) → List (Option Query)
    with_states o t rest = origin_slot ask o ∷ target_slot ask o t ∷ map (known_slot (are_known o t)) rest

    kept : Option ℕ → List (Option Query)
    kept least_arrival = own_slot ask least_arrival board.own (home ask.origin) ∷ place_slots ask least_arrival book.spots board.labels.items

    rest_is : kept board.best ≡ own_pair_slot book ask told (home ask.origin) ∷ map (λ (spot : Spot). pair_slot book ask told (pair_of spot)) book.spots
    rest_is =
        ap kept is.best_is
        ∙ (ap (λ (o : Option Query). o ∷ place_slots ask (best book ask told) book.spots board.labels.items) (own_is book ask told board.own (home ask.origin) is.own_is)
        ∙ ap (λ (qs : List (Option Query)). own_pair_slot book ask told (home ask.origin) ∷ qs)
        (places_are book ask told book.spots board.labels.items
        (pairwise_from (IsLabel book ask told (arrivals book ask told)) book.spots board.labels.items is.labels_are.count (λ k x y p q. is.labels_are.each k x y p q))))

none_known : (queries : List (Option Query)) (k : ℕ) → get_or (map (known_slot false) queries) k None ≡ None
none_known [] k = refl
none_known (query ∷ queries) zero = refl
none_known (query ∷ queries) (suc k) = none_known queries k

past_three : (first second third : Option Query) (queries : List (Option Query)) (place : ℕ) → get_or (first ∷ second ∷ third ∷ queries) (place + 3) None ≡ get_or queries place None
past_three first second third queries place = let n : place + 3 ≡ suc (suc (suc place)) = omega arith in ap (λ (k : ℕ). get_or (first ∷ second ∷ third ∷ queries) k None) n

label_at_place : (ask : TripAsk) (arrival : Option ℕ) (spots : List Spot) (labels : List Label) (place : ℕ) (spot : Spot) (label : Label) → slice_get spots place ≡ Some spot → slice_get labels place ≡ Some label
    → get_or (map (known_slot true) (place_slots ask arrival spots labels)) place None ≡ label_slot ask arrival spot label
label_at_place ask arrival [] labels place spot label at is = absurd (none-some spot at)
label_at_place ask arrival (x ∷ spots) [] place spot label at is = absurd (none-some label is)
label_at_place ask arrival (x ∷ spots) (y ∷ labels) zero spot label at is =
    ap (λ (s : Spot). label_slot ask arrival s y) (same_Some x spot at) ∙ ap (λ (l : Label). label_slot ask arrival spot l) (same_Some y label is)
label_at_place ask arrival (x ∷ spots) (y ∷ labels) (suc place) spot label at is = label_at_place ask arrival spots labels place spot label at is

-- the slot of a place, where both places of the search are known, and where one is not
place_known : (book : Book) (board : Board) (place : ℕ) (spot : Spot) (label : Label) → are_known board.origin board.target ≡ true → slice_get book.spots place ≡ Some spot → slice_get board.labels.items place ≡ Some label
    → label_slot board.ask board.best spot label ≡ get_or (kept_slots book board) (place + 3) None
place_known book board place spot label e at is =
    sym (past_three _ _ _ (map (known_slot (are_known board.origin board.target)) (place_slots board.ask board.best book.spots board.labels.items)) place
    ∙ (ap (λ (b : Bool). get_or (map (known_slot b) (place_slots board.ask board.best book.spots board.labels.items)) place None) e
    ∙ label_at_place board.ask board.best book.spots board.labels.items place spot label at is))

pub place_open : (book : Book) (board : Board) (place : ℕ) (spot : Spot) (label : Label) (start : ℕ) → are_known board.origin board.target ≡ true → slice_get book.spots place ≡ Some spot → slice_get board.labels.items place ≡ Some label
    → open_start board.ask board.best label ≡ Some start → Some (Reach spot.region spot.stop start) ≡ get_or (kept_slots book board) (place + 3) None
place_open book board place spot label start e at is opens = sym (ap (reach_from spot) opens) ∙ place_known book board place spot label e at is

pub place_closed : (book : Book) (board : Board) (place : ℕ) (label : Label) → are_known board.origin board.target ≡ true → place < length book.spots → slice_get board.labels.items place ≡ Some label
    → open_start board.ask board.best label ≡ None → None ≡ get_or (kept_slots book board) (place + 3) None
place_closed book board place label e within is closed =
    let spot : Spot = get_or book.spots place (own_spot [] []) in
    let at : slice_get book.spots place ≡ Some spot = slice_get-get_or book.spots place (own_spot [] []) within in
    sym (ap (reach_from spot) closed) ∙ place_known book board place spot label e at is

pub place_unknown : (book : Book) (board : Board) (place : ℕ) → are_known board.origin board.target ≡ false → None ≡ get_or (kept_slots book board) (place + 3) None
place_unknown book board place e =
    sym (past_three _ _ _ (map (known_slot (are_known board.origin board.target)) (place_slots board.ask board.best book.spots board.labels.items)) place
    ∙ (ap (λ (b : Bool). get_or (map (known_slot b) (place_slots board.ask board.best book.spots board.labels.items)) place None) e
    ∙ none_known (place_slots board.ask board.best book.spots board.labels.items) place))

-- ---- one number after another

each_push : (P : Query → Type 0) (xs : List Query) (x : Query) → Each P xs → P x → Each P (xs ++ x ∷ [])
each_push P [] x all h = (h, tt)
each_push P (y ∷ xs) x all h = (all.0, each_push P xs x all.1 h)

somes_take : (xs : List (Option Query)) (n : ℕ) (x : Option Query) → n < length xs → get_or xs n None ≡ x → somes (take (n + 1) xs) ≡ somes (take n xs) ++ somes (x ∷ [])
somes_take xs n x within e = ap somes (take_more xs n None within) ∙ (somes_append (take n xs) (get_or xs n None ∷ []) ∙ ap (λ (o : Option Query). somes (take n xs) ++ somes (o ∷ [])) e)

-- all that is wanted at the first numbers is live
abbrev pub AreLive : List (Option Query) → ℕ → List Query → Type 0
AreLive xs n live = Each (λ (query : Query). Among query live) (somes (take n xs))

pub live_none : (xs : List (Option Query)) (n : ℕ) (live : List Query) → n < length xs → get_or xs n None ≡ None → AreLive xs n live → AreLive xs (n + 1) live
live_none xs n live within e before = subst (Each (λ (query : Query). Among query live)) (sym (somes_take xs n None within e ∙ append-nil (somes (take n xs)))) before

pub live_one : (xs : List (Option Query)) (n : ℕ) (live : List Query) (query : Query) → n < length xs → get_or xs n None ≡ Some query → Among query live → AreLive xs n live → AreLive xs (n + 1) live
live_one xs n live query within e here before =
    subst (Each (λ (q : Query). Among q live)) (sym (somes_take xs n (Some query) within e)) (each_push (λ (q : Query). Among q live) (somes (take n xs)) query before here)

pub live_all : (xs : List (Option Query)) (n : ℕ) (live : List Query) → length xs ≤ n → AreLive xs n live → Each (λ (query : Query). Among query live) (somes xs)
live_all xs n live past before = subst (λ (ys : List (Option Query)). Each (λ (query : Query). Among query live) (somes ys)) (take_all n xs past) before

pub first_new : (xs : List (Option Query)) (n : ℕ) (live : List Query) (query : Query) → n < length xs → get_or xs n None ≡ Some query → (Among query live → ⊥) → AreLive xs n live → IsFirstNew (somes xs) live query
first_new xs n live query within e new before =
    record {
      before = somes (take n xs);
      rest = somes (drop (n + 1) xs);
      split = ap somes (sym (take-append-drop n xs) ∙ ap (λ ys. take n xs ++ ys) (drop_more xs n None within))
          ∙ (somes_append (take n xs) (get_or xs n None ∷ drop (n + 1) xs) ∙ ap (λ (o : Option Query). somes (take n xs) ++ somes (o ∷ drop (n + 1) xs)) e);
      all_live = before;
      not_live = new;
    }

pub next_from : (queries wanted_ones live : List Query) (r : Option Query) → queries ≡ wanted_ones → IsNext queries live r → IsNext wanted_ones live r
next_from queries wanted_ones live r e h = subst (λ (qs : List Query). IsNext qs live r) e h

none_wanted : (queries : List Query) → Each (λ (q : Query). Among q []) queries → queries ≡ []
none_wanted [] h = refl
none_wanted (q ∷ queries) h = absurd h.0

some_wanted : (queries before rest : List Query) (query : Query) → queries ≡ before ++ query ∷ rest → queries ≡ [] → ⊥
some_wanted queries [] rest query e none = let both : query ∷ rest ≡ [] = sym e ∙ none in cc
some_wanted queries (q ∷ before) rest query e none = let both : q ∷ (before ++ query ∷ rest) ≡ [] = sym e ∙ none in cc

pub settled_by : (queries : List Query) (r : Option Query) (settled : Bool) → is_some r ≡ not settled → IsNext queries [] r → (IsTrue settled → queries ≡ []) × (queries ≡ [] → IsTrue settled)
settled_by queries None true e h = (λ _. none_wanted queries h, λ _. refl)
settled_by queries None false e h = absurd (cc)
settled_by queries (Some query) true e h = absurd (cc)
settled_by queries (Some query) false e h = (λ wrong. absurd (cc), λ none. absurd (some_wanted queries h.before h.rest query h.split none))

-- ---- where a wanted query stands

-- the query stands at a place of its own pair
record PlaceOf (xs : List (Option Query)) (spots : List Spot) (query : Query) : Type 0 where
  place : ℕ
  spot : Spot
  at : slice_get spots place ≡ Some spot
  is : get_or xs place None ≡ Some query
  start : ℕ
  reach : query ≡ Reach spot.region spot.stop start

somes_first : (x : Option Query) (xs : List (Option Query)) (query : Query) → Among query (somes (x ∷ xs)) → (x ≡ Some query) ⊎ Among query (somes xs)
somes_first None xs query h = inr h
somes_first (Some q) xs query (inl e) = inl (ap Some (sym e))
somes_first (Some q) xs query (inr h) = inr h

pub known_is : (b : Bool) (o : Option Query) (q : Query) → known_slot b o ≡ Some q → o ≡ Some q
known_is true o q e = e
known_is false o q e = absurd (cc)

pub slot_reach : (book : Book) (ask : TripAsk) (told : List Entry) (pair : Pair) (query : Query) → pair_slot book ask told pair ≡ Some query → (start : ℕ) × (query ≡ reach_at pair start)
unfolding pair_slot
slot_reach book ask told pair query e = let it = wanted_start told pair (improving_start book ask told pair) query e in (it.0, it.2)

place_of_query : (book : Book) (ask : TripAsk) (told : List Entry) (known : Bool) (spots : List Spot) (query : Query)
    → Among query (somes (map (known_slot known) (map (λ (spot : Spot). pair_slot book ask told (pair_of spot)) spots))) → PlaceOf (map (known_slot known) (map (λ (spot : Spot). pair_slot book ask told (pair_of spot)) spots)) spots query
place_of_query book ask told known [] query h = absurd h
place_of_query book ask told known (spot ∷ spots) query h =
    elim (somes_first (known_slot known (pair_slot book ask told (pair_of spot))) (map (known_slot known) (map (λ (it : Spot). pair_slot book ask told (pair_of it)) spots)) query h) [
      | inl e ↦
          let it : (start : ℕ) × (query ≡ Reach spot.region spot.stop start) = slot_reach book ask told (pair_of spot) query (known_is known (pair_slot book ask told (pair_of spot)) query e) in
          record { place = zero; spot = spot; at = refl; is = e; start = it.0; reach = it.1 }
      | inr rest ↦
          let it : PlaceOf (map (known_slot known) (map (λ (that : Spot). pair_slot book ask told (pair_of that)) spots)) spots query = place_of_query book ask told known spots query rest in
          record { place = suc it.place; spot = it.spot; at = it.at; is = it.is; start = it.start; reach = it.reach }
    ]

-- the slots in which a query may stand
data StandsAt (book : Book) (xs : List (Option Query)) (query : Query) : Type 0 where
  AtFirst : get_or xs 0 None ≡ Some query → StandsAt book xs query
  AtSecond : get_or xs 1 None ≡ Some query → StandsAt book xs query
  AtOwn : get_or xs 2 None ≡ Some query → StandsAt book xs query
  AtPlace : (place start : ℕ) (stop region : Text) → query ≡ Reach region stop start → IsPairAt book place stop region → get_or xs (place + 3) None ≡ Some query → StandsAt book xs query

stands_by : (book : Book) (ask : TripAsk) (told : List Entry) (o t : PlaceState) (query : Query) → Among query (somes (slots_by book ask told o t)) → StandsAt book (slots_by book ask told o t) query
stands_by book ask told o t query h =
    elim (somes_first (origin_slot ask o) _ query h) [
      | inl e ↦ AtFirst e
      | inr h1 ↦ elim (somes_first (target_slot ask o t) _ query h1) [
        | inl e ↦ AtSecond e
        | inr h2 ↦ elim (somes_first (known_slot (are_known o t) (own_pair_slot book ask told (home ask.origin))) _ query h2) [
          | inl e ↦ AtOwn e
          | inr h3 ↦
              let it : PlaceOf (map (known_slot (are_known o t)) (map (λ (spot : Spot). pair_slot book ask told (pair_of spot)) book.spots)) book.spots query = place_of_query book ask told (are_known o t) book.spots query h3 in
              AtPlace it.place it.start it.spot.stop it.spot.region it.reach (record { spot = it.spot; at = it.at; stop_is = refl; region_is = refl })
              (past_three _ _ _ (map (known_slot (are_known o t)) (map (λ (spot : Spot). pair_slot book ask told (pair_of spot)) book.spots)) it.place ∙ it.is)
        ]
      ]
    ]

stands_at : (book : Book) (ask : TripAsk) (told : List Entry) (query : Query) → Among query (somes (slots book ask told)) → StandsAt book (slots book ask told) query
unfolding slots
stands_at book ask told query h = stands_by book ask told (place_state book (checks_in told) ask.origin) (place_state book (checks_in told) ask.target) query h

-- what stands in a slot is wanted
slot_somes : (xs : List (Option Query)) (k : ℕ) (query : Query) → get_or xs k None ≡ Some query → Among query (somes xs)
slot_somes [] k query e = absurd (cc)
slot_somes (x ∷ xs) zero query e = subst (λ (o : Option Query). Among query (somes (o ∷ xs))) (sym e) (inl refl)
slot_somes (None ∷ xs) (suc k) query e = slot_somes xs k query e
slot_somes (Some q ∷ xs) (suc k) query e = inr (slot_somes xs k query e)

pub slot_wanted : (book : Book) (ask : TripAsk) (told : List Entry) (k : ℕ) (query : Query) → IsWellBook book → IsTrue (is_stop_ref ask.origin) → get_or (slots book ask told) k None ≡ Some query → Among query (wanted book ask told)
slot_wanted book ask told k query well ref e = subst (λ (qs : List Query). Among query qs) (slots_wanted book ask told well ref) (slot_somes (slots book ask told) k query e)

pub if_slot_wanted : (book : Book) (ask : TripAsk) (told : List Entry) (k : ℕ) (r : Option Query) → IsWellBook book → IsTrue (is_stop_ref ask.origin) → r ≡ get_or (slots book ask told) k None → IfSome r (λ found. Among found (wanted book ask told))
if_slot_wanted book ask told k None well ref e = tt
if_slot_wanted book ask told k (Some query) well ref e = slot_wanted book ask told k query well ref (sym e)

pub this_by : (slot : Option Query) (found query : Query) (r : Bool) → slot ≡ Some found → r ≡ same_query found query → MatchBool r (slot ≡ Some query) (slot ≡ Some query → ⊥)
this_by slot found query true is e = is ∙ ap Some (same_query_is found query (sym e))
this_by slot found query false is e = λ f. true≢false (sym (is_same_query found query (same_Some found query (sym is ∙ f))) ∙ sym e)

pub pair_of_query : (book : Book) (place : ℕ) (stop region : Text) (start : ℕ) (stop' region' : Text) (start' : ℕ) → IsPairAt book place stop' region' → Reach region stop start ≡ Reach region' stop' start' → IsPairAt book place stop region
pair_of_query book place stop region start stop' region' start' here e =
    let stops : stop ≡ stop' = cc in
    let regions : region ≡ region' = cc in
    record { spot = here.spot; at = here.at; stop_is = here.stop_is ∙ sym stops; region_is = here.region_is ∙ sym regions }

pub same_place : (book : Book) (p q : ℕ) (stop region : Text) (start : ℕ) (stop' region' : Text) (start' : ℕ) → IsWellBook book → IsPairAt book p stop region → IsPairAt book q stop' region' → Reach region stop start ≡ Reach region' stop' start' → p ≡ q
same_place book p q stop region start stop' region' start' well at_p at_q e = one_place book p q stop region well at_p (pair_of_query book q stop region start stop' region' start' at_q e)

pub wanted_last :
    (book : Book) (ask : TripAsk) (told : List Entry) (query : Query) (slot : Option Query) (r : Bool) → IsWellBook book → IsTrue (is_stop_ref ask.origin)
    → (get_or (slots book ask told) 0 None ≡ Some query → ⊥) → (get_or (slots book ask told) 1 None ≡ Some query → ⊥) → (get_or (slots book ask told) 2 None ≡ Some query → ⊥)
    → IfSome slot (λ found. Among found (wanted book ask told))
    → ((place start : ℕ) (stop region : Text) → query ≡ Reach region stop start → IsPairAt book place stop region → slot ≡ get_or (slots book ask told) (place + 3) None)
    → MatchBool r (slot ≡ Some query) (slot ≡ Some query → ⊥)
    → MatchBool r (Among query (wanted book ask told)) (Among query (wanted book ask told) → ⊥)
wanted_last book ask told query slot true well ref a b c some all this = subst (λ (o : Option Query). IfSome o (λ found. Among found (wanted book ask told))) this some
wanted_last book ask told query slot false well ref a b c some all this =
    λ h. go (stands_at book ask told query (subst (λ (qs : List Query). Among query qs) (sym (slots_wanted book ask told well ref)) h))
  where
    go : StandsAt book (slots book ask told) query → ⊥
    go (AtFirst e) = a e
    go (AtSecond e) = b e
    go (AtOwn e) = c e
    go (AtPlace place start stop region q here e) = this (all place start stop region q here ∙ e)
