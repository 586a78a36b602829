-- What a search that keeps least starts, the best arrival and the states of places needs of the definitions.
use Rattle.std.proofs.Common.{◌≡◌, ◌≢◌, ℕ, ◌+◌, ◌<◌, ◌≤◌, Bool, true, false, not, cond, ◌&&◌, ◌||◌, ◌⊎◌, List, [], ◌∷◌, ◌++◌, map, length, Option, Some, None, nat_le, refl, sym, ◌∙◌, ap, subst, inl, inr, arith, append_assoc, append-nil}
use Rattle.std.proofs.lemmas.Bool.{cases_Bool, and_parts, leb-true, ltb-true}
use Rattle.std.proofs.lemmas.List.Folds.{list_any-append}
use Rattle.std.specs.List.{filter, flat_map, cons_option}
use Rattle.ojp_values.specs.Lists.{Among, Each, least, lesser}
use Rattle.ojp_values.specs.Texts.{Text, same, home}
use Rattle.ojp_values.specs.declared.asks.TripAsk.{TripAsk}
use Rattle.ojp_values.specs.declared.replies.Delivery.{Delivery}
use Rattle.ojp_values.proofs.ListFacts.{LeastBelow, least_below, least_among}
use Rattle.ojp_timetable.specs.Runs.{day_long, last_moment}
use Rattle.ojp_exchange.specs.Book.{Book, Spot, has_region, serves}
use Rattle.ojp_records.specs.declared.queries.Query.{Query}
use Rattle.ojp_records.specs.declared.queries.Query.TheVariants.{Check, Reach}
use Rattle.ojp_records.specs.declared.queries.Entry.{Entry}
use Rattle.ojp_records.specs.Records.{same_query, is_told, has_reply, is_failed}
use Rattle.ojp_records.specs.Places.{ToldCheck, check_of, checks_in, PlaceState, Unknown, Unheard, reply_state, is_check, check_state, state_by, place_state, check}
use Rattle.ojp_records.specs.Pairs.{Pair, is_way_on, served_goal, ends_towards}
use Rattle.ojp_records.specs.Starts.{lesser_of, Arrival, arrivals_heard, is_within, arrivals, starts_after, asked_start, known_starts, moment_of, is_at_target, best}
use Rattle.ojp_records.specs.Wanted.{is_before, can_improve, wanted, Improves, PairWanted}
use Rattle.ojp_records.specs.Told.{EntryFits, IsOpenQuery, IsRecord, ToldInTurn}
use Rattle.ojp_records.proofs.StartFacts.{IsAsked, IsAfter, known_start_back, known_starts_more, BestBelow, best_below}
use Rattle.ojp_records.specs.Laws.{AskedStartsFall, StartsAreLow, WantedIsOpen, WantedStartsAreWithin}
use Rattle.ojp_records.proofs.RecordFacts.{EntryOf, told_is, OpenAt, open_at}
use Rattle.ojp_records.proofs.PlaceFacts.{OriginCheck, TargetCheck, AtPair, reply_is_heard}
use Rattle.ojp_records.proofs.WantedFacts.{WantedBy, wanted_by, pair_wanted, check_is, open_start}
use Rattle.ojp_records.proofs.Falls.{starts_fall}
use Rattle.ojp_records.proofs.Chained.{start_low}

-- ---- told in turn, and open

-- one more entry, whose query was open, is told in turn
pub turn_more : (book : Book) (ask : TripAsk) (told later : List Entry) (entry : Entry) → ToldInTurn book ask told later → IsOpenQuery book ask (told ++ later) entry.query → ToldInTurn book ask told (later ++ entry ∷ [])
turn_more book ask told [] entry turn it = (subst (λ (t : List Entry). IsOpenQuery book ask t entry.query) (append-nil told) it, tt)
turn_more book ask told (first ∷ later) entry turn it =
    (turn.0, turn_more book ask (told ++ first ∷ []) later entry turn.1 (subst (λ (t : List Entry). IsOpenQuery book ask t entry.query) (sym (append_assoc told (first ∷ []) later)) it))

each_push : (P : Entry → Type 0) (told : List Entry) (entry : Entry) → Each P told → P entry → Each P (told ++ entry ∷ [])
each_push P [] entry all it = (it, tt)
each_push P (first ∷ told) entry all it = (all.0, each_push P told entry all.1 it)

-- a record grows by an entry whose query was open, and whose reply fits
pub record_more : (book : Book) (ask : TripAsk) (told : List Entry) (entry : Entry) → IsRecord book ask told → IsOpenQuery book ask told entry.query → EntryFits book ask entry → IsRecord book ask (told ++ entry ∷ [])
record_more book ask told entry it is_open fits =
    record { in_turn = turn_more book ask [] told entry it.in_turn is_open; fits = each_push (EntryFits book ask) told entry it.fits fits }

-- a query stays open until it is told
pub open_more : (book : Book) (ask : TripAsk) (told more : List Entry) (query : Query) → IsOpenQuery book ask told query → is_told (told ++ more) query ≡ false → IsOpenQuery book ask (told ++ more) query
open_more book ask told more query it untold =
    record { before = it.before; since = it.since ++ more; split = sym (append_assoc it.before it.since more) ∙ ap (λ (t : List Entry). t ++ more) it.split; was_wanted = it.was_wanted; untold = untold }

-- ---- what is wanted was not told, and is open

untold_step : (reply later : PlaceState) (b c : Bool) → reply ≢ Unheard → cond b reply later ≡ Unheard → (later ≡ Unheard → c ≡ false) → (b || c) ≡ false
untold_step reply later true c heard e rest = absurd (heard e)
untold_step reply later false c heard e rest = rest e

untold_by : (told : List Entry) (checks : List ToldCheck) (region stop : Text) (query : Query) (reply : Option Delivery) → check_state (cons_option (check_of query reply) checks) region stop ≡ Unheard → (check_state checks region stop ≡ Unheard → is_told told (Check region stop) ≡ false) → (same_query query (Check region stop) || is_told told (Check region stop)) ≡ false
untold_by told checks region stop (Reach r s t) reply e rest = rest e
untold_by told checks region stop (Check r s) reply e rest =
    untold_step (reply_state reply) (check_state checks region stop) (is_check region stop (record { region = r; stop = s; reply = reply })) (is_told told (Check region stop)) (reply_is_heard reply) e rest

-- a check of which nothing is heard was not told
pub check_untold : (told : List Entry) (region stop : Text) → check_state (checks_in told) region stop ≡ Unheard → is_told told (Check region stop) ≡ false
unfolding is_told checks_in
check_untold [] region stop e = refl
check_untold (entry ∷ told) region stop e = untold_by told (checks_in told) region stop entry.query entry.reply e (check_untold told region stop)

unknown_or : (b : Bool) (s : PlaceState) → cond b s Unknown ≡ Unheard → (b ≡ true) × (s ≡ Unheard)
unknown_or true s e = (refl, e)
unknown_or false s e = absurd (cc)

-- of a place that is not heard of the check is not
pub unheard_place : (book : Book) (checks : List ToldCheck) (stop region : Text) → home stop ≡ Some region → place_state book checks stop ≡ Unheard → (has_region book region ≡ true) × (check_state checks region stop ≡ Unheard)
unfolding place_state
unheard_place book checks stop region at e = unknown_or (has_region book region) (check_state checks region stop) (sym (ap (state_by book checks stop) at) ∙ e)

place_untold : (book : Book) (told : List Entry) (stop : Text) (query : Query) → place_state book (checks_in told) stop ≡ Unheard → Among query (check stop) → is_told told query ≡ false
place_untold book told stop query e h =
    let it : (region : Text) × (home stop ≡ Some region) × (query ≡ Check region stop) = check_is stop query h in
    subst (λ (q : Query). is_told told q ≡ false) (sym it.2) (check_untold told it.0 stop (unheard_place book (checks_in told) stop it.0 it.1 e).1)

pub wanted_is_untold : (book : Book) (ask : TripAsk) (told : List Entry) (query : Query) → Among query (wanted book ask told) → is_told told query ≡ false
wanted_is_untold book ask told query h = go (wanted_by book ask told query h)
  where
    go : WantedBy book ask told query → is_told told query ≡ false
    go (OriginCheck o i) = place_untold book told ask.origin query o i
    go (TargetCheck known t i) = place_untold book told ask.target query t i
    go (AtPair o t i) = (pair_wanted book ask told query i).untold

pub wanted_is_open : WantedIsOpen
wanted_is_open book ask told query h = record { before = told; since = []; split = append-nil told; was_wanted = h; untold = wanted_is_untold book ask told query h }

-- ---- longer records

pub is_told_append : (told more : List Entry) (query : Query) → is_told (told ++ more) query ≡ (is_told told query || is_told more query)
unfolding is_told
is_told_append told more query = list_any-append (λ (entry : Entry). same_query entry.query query) told more

pub is_failed_append : (told more : List Entry) (query : Query) → is_failed (told ++ more) query ≡ (is_failed told query || is_failed more query)
unfolding is_failed
is_failed_append told more query = list_any-append (λ (entry : Entry). same_query entry.query query && not (has_reply entry.reply)) told more

-- the arrivals that are heard by an entry
abbrev heard_by : Book → TripAsk → Entry → List Arrival
heard_by book ask entry = arrivals_heard book ask entry.query entry.reply

pub lesser_assoc : (x : ℕ) (y z : Option ℕ) → lesser x (lesser_of y z) ≡ lesser (lesser x y) z
lesser_assoc x None z = refl
lesser_assoc x (Some y) None = refl
lesser_assoc x (Some y) (Some z) = omega arith

pub least_append : (xs ys : List ℕ) → least (xs ++ ys) ≡ lesser_of (least xs) (least ys)
least_append [] ys = refl
least_append (x ∷ xs) ys = ap (λ (o : Option ℕ). Some (lesser x o)) (least_append xs ys) ∙ ap Some (lesser_assoc x (least xs) (least ys))

flat_map_append : {X Y : Type 0} (f : X → List Y) (xs ys : List X) → flat_map f (xs ++ ys) ≡ flat_map f xs ++ flat_map f ys
flat_map_append f [] ys = refl
flat_map_append f (x ∷ xs) ys = ap (λ l. f x ++ l) (flat_map_append f xs ys) ∙ sym (append_assoc (f x) (flat_map f xs) (flat_map f ys))

cond_append : {X : Type 0} (b : Bool) (x : X) (l m : List X) → cond b (x ∷ (l ++ m)) (l ++ m) ≡ cond b (x ∷ l) l ++ m
cond_append true x l m = refl
cond_append false x l m = refl

pub filter_append : {X : Type 0} (p : X → Bool) (xs ys : List X) → filter p (xs ++ ys) ≡ filter p xs ++ filter p ys
filter_append p [] ys = refl
filter_append p (x ∷ xs) ys = ap (λ l. cond (p x) (x ∷ l) l) (filter_append p xs ys) ∙ cond_append (p x) x (filter p xs) (filter p ys)

pub arrivals_append : (book : Book) (ask : TripAsk) (told more : List Entry) → arrivals book ask (told ++ more) ≡ arrivals book ask told ++ arrivals book ask more
unfolding arrivals
arrivals_append book ask told more = ap (filter (is_within ask)) (flat_map_append (heard_by book ask) told more) ∙ filter_append (is_within ask) (flat_map (heard_by book ask) told) (flat_map (heard_by book ask) more)

-- the known starts of a longer record: those before, and those after the arrivals of what was told since
pub known_starts_append : (book : Book) (ask : TripAsk) (told more : List Entry) (stop region : Text) → known_starts book ask (told ++ more) stop region ≡ known_starts book ask told stop region ++ flat_map (starts_after book stop region) (arrivals book ask more)
unfolding known_starts
known_starts_append book ask told more stop region =
    ap (λ (l : List Arrival). asked_start book ask stop region ++ flat_map (starts_after book stop region) l) (arrivals_append book ask told more)
    ∙ (ap (λ (l : List ℕ). asked_start book ask stop region ++ l) (flat_map_append (starts_after book stop region) (arrivals book ask told) (arrivals book ask more))
    ∙ sym (append_assoc (asked_start book ask stop region) (flat_map (starts_after book stop region) (arrivals book ask told)) (flat_map (starts_after book stop region) (arrivals book ask more))))

pub least_start_append : (book : Book) (ask : TripAsk) (told more : List Entry) (stop region : Text) → least (known_starts book ask (told ++ more) stop region) ≡ lesser_of (least (known_starts book ask told stop region)) (least (flat_map (starts_after book stop region) (arrivals book ask more)))
least_start_append book ask told more stop region = ap least (known_starts_append book ask told more stop region) ∙ least_append (known_starts book ask told stop region) _

map_append : {X Y : Type 0} (f : X → Y) (xs ys : List X) → map f (xs ++ ys) ≡ map f xs ++ map f ys
map_append f [] ys = refl
map_append f (x ∷ xs) ys = ap (λ l. f x ∷ l) (map_append f xs ys)

-- the best arrival of a longer record: the lesser of that before and that of what was told since
pub best_append : (book : Book) (ask : TripAsk) (told more : List Entry) → best book ask (told ++ more) ≡ lesser_of (best book ask told) (best book ask more)
unfolding best
best_append book ask told more =
    ap (λ (l : List Arrival). least (map moment_of (filter (is_at_target ask) l))) (arrivals_append book ask told more)
    ∙ (ap (λ (l : List Arrival). least (map moment_of l)) (filter_append (is_at_target ask) (arrivals book ask told) (arrivals book ask more))
    ∙ (ap least (map_append moment_of (filter (is_at_target ask) (arrivals book ask told)) (filter (is_at_target ask) (arrivals book ask more)))
    ∙ least_append (map moment_of (filter (is_at_target ask) (arrivals book ask told))) (map moment_of (filter (is_at_target ask) (arrivals book ask more)))))

-- ---- starts

-- the least known start is not before the asked one, for all fitting replies
pub starts_are_low : StartsAreLow
starts_are_low book ask told stop region start well e = start_low book ask told stop region start well (least_among start _ e)

-- a query that is wanted at a pair is not at the requested target
pub not_at_target : (book : Book) (ask : TripAsk) (told : List Entry) (region stop : Text) (start : ℕ) → ask.origin ≢ ask.target → Among start (known_starts book ask told stop region) → can_improve ask (best book ask told) start ≡ true → stop ≢ ask.target
not_at_target book ask told region stop start differ known can at = go (known_start_back book ask told stop region start known)
  where
    before_best : (value : ℕ) → best book ask told ≡ Some value → start < value
    before_best value e =
        let first : is_before start (best book ask told) ≡ true = (and_parts _ _ can).0 in
        ltb-true start value (subst (λ (o : Option ℕ). is_before start o ≡ true) e first)

    go : IsAsked book ask stop region start ⊎ IsAfter book ask told stop region start → ⊥
    go (inl asked) = differ (sym asked.at ∙ at)
    go (inr after) =
        let below : BestBelow book ask told after.arrival.moment = best_below book ask told after.arrival after.heard (after.at ∙ at) in
        let is : start ≡ after.arrival.moment + after.change = after.is in
        let low : below.value ≤ after.arrival.moment = below.below in
        let less : start < below.value = before_best below.value below.is in
        omega arith

-- a start that was asked is one of the known starts
pub told_start : (book : Book) (ask : TripAsk) (told : List Entry) (region stop : Text) (start : ℕ) → ToldInTurn book ask [] told → is_told told (Reach region stop start) ≡ true → Among start (known_starts book ask told stop region)
told_start book ask told region stop start turn e =
    let m : EntryOf told (Reach region stop start) = told_is told (Reach region stop start) e in
    let it : OpenAt book ask told m.item = open_at book ask [] told m.item turn m.among in
    let then : Among start (known_starts book ask it.before stop region) = open_start book ask it.before region stop start (subst (λ (q : Query). IsOpenQuery book ask it.before q) m.holds it.open_then) in
    subst (λ (t : List Entry). Among start (known_starts book ask t stop region)) (sym it.split) (known_starts_more book ask it.before (m.item ∷ it.rest) stop region start then)

-- what is before the least known start was never asked: where a least start falls, the new one is neither heard nor failed
pub fresh : (book : Book) (ask : TripAsk) (told : List Entry) (region stop : Text) (known start : ℕ) → ToldInTurn book ask [] told → least (known_starts book ask told stop region) ≡ Some known → start < known → is_told told (Reach region stop start) ≡ false
fresh book ask told region stop known start turn e less =
    elim (cases_Bool (is_told told (Reach region stop start))) [
      | inl was ↦
          let below : LeastBelow start (known_starts book ask told stop region) = least_below start _ (told_start book ask told region stop start turn was) in
          let both : Some below.value ≡ Some known = sym below.is ∙ e in
          let values : below.value ≡ known = cc in
          let low : below.value ≤ start = below.below in
          absurd (omega (arith, less))
      | inr never ↦ never
    ]

-- a wanted reach is that of a pair which can improve at its start
pub reach_improves : (book : Book) (ask : TripAsk) (told : List Entry) (region stop : Text) (start : ℕ) → Among (Reach region stop start) (wanted book ask told) → Improves book ask told (record { stop = stop; region = region }) start
reach_improves book ask told region stop start h = go (wanted_by book ask told (Reach region stop start) h)
  where
    no_check : (place : Text) → Among (Reach region stop start) (check place) → ⊥
    no_check place i =
        let is : (code : Text) × (home place ≡ Some code) × (Reach region stop start ≡ Check code place) = check_is place (Reach region stop start) i in
        let queries : Reach region stop start ≡ Check is.0 place = is.2 in
        cc

    at_pair : PairWanted book ask told (Reach region stop start) → Improves book ask told (record { stop = stop; region = region }) start
    at_pair w =
        let is : Reach region stop start ≡ Reach w.pair.region w.pair.stop w.start = w.is in
        let regions : w.pair.region ≡ region = cc in
        let stops : w.pair.stop ≡ stop = cc in
        let starts : w.start ≡ start = cc in
        subst (λ (n : ℕ). Improves book ask told (record { stop = stop; region = region }) n) starts
        (subst (λ (s : Text). Improves book ask told (record { stop = s; region = region }) w.start) stops
        (subst (λ (r : Text). Improves book ask told (record { stop = w.pair.stop; region = r }) w.start) regions w.improves))

    go : WantedBy book ask told (Reach region stop start) → Improves book ask told (record { stop = stop; region = region }) start
    go (OriginCheck o i) = absurd (no_check ask.origin i)
    go (TargetCheck known t i) = absurd (no_check ask.target i)
    go (AtPair o t i) = at_pair (pair_wanted book ask told (Reach region stop start) i)

pub wanted_starts_are_within : WantedStartsAreWithin
wanted_starts_are_within book ask told region stop start well h =
    let it : Improves book ask told (record { stop = stop; region = region }) start = reach_improves book ask told region stop start h in
    let rest : (nat_le start (ask.start + day_long) && nat_le start last_moment) ≡ true = (and_parts _ _ it.can).1 in
    (starts_are_low book ask told stop region start well it.is_least, leb-true start (ask.start + day_long) (and_parts _ _ rest).0)

-- the starts at which a pair is wanted strictly fall
asked_fall :
    (book : Book) (ask : TripAsk) (told more : List Entry) (pair : Pair) (start later : ℕ)
    → Improves book ask told pair start → Improves book ask (told ++ more) pair later → start ≢ later → later < start
asked_fall book ask told more pair start later first second other =
    let now : (n : ℕ) × (least (known_starts book ask (told ++ more) pair.stop pair.region) ≡ Some n) × (n ≤ start) = starts_fall book ask told more pair.stop pair.region start first.is_least in
    let same_value : Some now.0 ≡ Some later = sym now.1 ∙ second.is_least in
    let values : now.0 ≡ later = cc in
    let low : now.0 ≤ start = now.2 in
    let least_is : later ≤ start = omega arith in
    elim (below_or_same later start least_is) [ inl less ↦ less | inr is ↦ absurd (other (sym is)) ]
  where
    below_or_same : (x y : ℕ) → x ≤ y → (x < y) ⊎ (x ≡ y)
    below_or_same x y h = grind arith

pub asked_starts_fall : AskedStartsFall
asked_starts_fall book ask told more region stop start later first second other =
    asked_fall book ask told more (record { stop = stop; region = region }) start later (reach_improves book ask told region stop start first) (reach_improves book ask (told ++ more) region stop later second) other

-- ---- the ends of a pair

length_append : {X : Type 0} (xs ys : List X) → length (xs ++ ys) ≡ length xs + length ys
length_append [] ys = omega arith
length_append (x ∷ xs) ys = omega (arith, length_append xs ys)

pub length_map : {X Y : Type 0} (f : X → Y) (xs : List X) → length (map f xs) ≡ length xs
length_map f [] = omega arith
length_map f (x ∷ xs) = omega (arith, length_map f xs)

fewer_step : {X : Type 0} (x : X) (b c : Bool) (us vs : List X) → length us ≤ length vs → length (cond (b && c) (x ∷ us) us) ≤ length (cond b (x ∷ vs) vs)
fewer_step x true true us vs h = omega (arith, h)
fewer_step x true false us vs h = omega (arith, h)
fewer_step x false c us vs h = h

-- a stronger test leaves fewer
filter_fewer : {X : Type 0} (p q : X → Bool) (xs : List X) → length (filter (λ (x : X). p x && q x) xs) ≤ length (filter p xs)
filter_fewer p q [] = omega arith
filter_fewer p q (x ∷ xs) = fewer_step x (p x) (q x) (filter (λ (y : _). p y && q y) xs) (filter p xs) (filter_fewer p q xs)

goal_few : (b : Bool) (goal : Text) → length (cond b (goal ∷ []) []) ≤ 1
goal_few true goal = omega arith
goal_few false goal = omega arith

-- a pair has at most one end more than its region has exchange points
pub ends_few : (book : Book) (goal stop region : Text) (most : ℕ) → length (filter (λ (spot : Spot). same region spot.region) book.spots) ≤ most → length (ends_towards book goal stop region) ≤ most + 1
unfolding ends_towards
ends_few book goal stop region most few =
    let ways : List Spot = filter (is_way_on book goal stop region) book.spots in
    let joined : length (map (λ (spot : Spot). spot.stop) ways ++ served_goal book goal region) ≡ length (map (λ (spot : Spot). spot.stop) ways) + length (served_goal book goal region) =
    length_append (map (λ (spot : Spot). spot.stop) ways) (served_goal book goal region) in
    let mapped : length (map (λ (spot : Spot). spot.stop) ways) ≡ length ways = length_map (λ (spot : Spot). spot.stop) ways in
    let fewer : length ways ≤ length (filter (λ (spot : Spot). same region spot.region) book.spots) = filter_fewer (λ (spot : Spot). same region spot.region) _ book.spots in
    let one : length (served_goal book goal region) ≤ 1 = goal_few (serves book region goal) goal in
    omega arith

some_length : {X : Type 0} (x : X) (xs : List X) → Among x xs → 1 ≤ length xs
some_length x [] h = absurd h
some_length x (y ∷ xs) h = omega arith

-- and one at least, where it can improve
pub ends_some : (book : Book) (ask : TripAsk) (told : List Entry) (pair : Pair) (start : ℕ) → Improves book ask told pair start → 1 ≤ length (ends_towards book ask.target pair.stop pair.region)
ends_some book ask told pair start it = some_length it.target (ends_towards book ask.target pair.stop pair.region) it.has_target
