-- The fault that a board ends with is that of its record.
use Rattle.std.proofs.Common.{◌≡◌, ◌≢◌, ℕ, zero, suc, ◌+◌, ◌-◌, ◌<◌, ◌≤◌, Bool, true, false, not, cond, ◌&&◌, List, [], ◌∷◌, ◌++◌, map, Option, Some, None, length, get_or, drop, refl, sym, ◌∙◌, ap, subst, inl, inr, arith, slice_get}
use Rattle.std.specs.List.{filter_map, cons_option}
use Rattle.std.proofs.lemmas.List.{drop_more}
use Rattle.std.proofs.lemmas.Option.{none-some, same_Some}
use Rattle.ojp_values.specs.Lists.{Pairwise, least}
use Rattle.ojp_values.specs.Texts.{Text, home}
use Rattle.ojp_exchange.specs.Book.{Spot, Book, has_region}
use Rattle.ojp_records.specs.declared.places.PlaceState.{PlaceState}
use Rattle.ojp_records.specs.declared.places.PlaceState.TheVariants.{Known, Unknown, Unheard, CheckFailed}
use Rattle.ojp_records.specs.Places.{place_state, checks_in, check_state, state_by}
use Rattle.ojp_records.specs.Records.{is_failed}
use Rattle.ojp_records.specs.Starts.{arrivals, known_starts, best}
use Rattle.ojp_records.specs.Pairs.{ends_towards, pair_of, pairs_from}
use Rattle.ojp_records.specs.Wanted.{can_improve, improving, improving_start}
use Rattle.ojp_records.specs.Ends.{failed_check, failed_checks, failed_at, failed_pairs, least_text, fault_by, fault}
use Rattle.ojp_labels.specs.Boards.{has_any, IsLabel, own_spot, IsOwnLabel, IsBoardOf, lesser_code, failed_code, failed_places, own_failed}
use Rattle.ojp_labels.specs.Labels.{failed_when, failed_by}
use Rattle.ojp_labels.proofs.LabelFacts.{known_starts_by}
use Rattle.ojp_labels.proofs.SlotFacts.{pairwise_from}
use Rattle.ojp_records.proofs.OwnPair.{own_first, no_own}
use Rattle.ojp_records.proofs.PlaceFacts.{known_unknown, unknown_unheard, unknown_failed}
use Rattle.ojp_values.specs.declared.asks.TripAsk.{TripAsk}
use Rattle.ojp_values.specs.declared.replies.Fault.{Fault}
use Rattle.ojp_records.specs.declared.queries.Query.{Query}
use Rattle.ojp_records.specs.declared.queries.Query.TheVariants.{Check, Reach}
use Rattle.ojp_records.specs.declared.queries.Entry.{Entry}
use Rattle.ojp_labels.specs.declared.labels.Label.{Label}
use Rattle.ojp_labels.specs.declared.board.Board.{Board}

pub least_cons : (o : Option Text) (xs : List Text) → least_text (cons_option o xs) ≡ lesser_code o (least_text xs)
least_cons None xs = refl
least_cons (Some x) xs = refl

pub least_failed : (s t : PlaceState) (x y : Option Text) → lesser_code (failed_code s x) (failed_code t y) ≡ least_text (failed_check s x ++ failed_check t y)
least_failed CheckFailed CheckFailed None None = refl
least_failed CheckFailed CheckFailed None (Some y) = refl
least_failed CheckFailed CheckFailed (Some x) None = refl
least_failed CheckFailed CheckFailed (Some x) (Some y) = refl
least_failed CheckFailed Known None y = refl
least_failed CheckFailed Known (Some x) y = refl
least_failed CheckFailed Unknown None y = refl
least_failed CheckFailed Unknown (Some x) y = refl
least_failed CheckFailed Unheard None y = refl
least_failed CheckFailed Unheard (Some x) y = refl
least_failed Known CheckFailed x None = refl
least_failed Known CheckFailed x (Some y) = refl
least_failed Unknown CheckFailed x None = refl
least_failed Unknown CheckFailed x (Some y) = refl
least_failed Unheard CheckFailed x None = refl
least_failed Unheard CheckFailed x (Some y) = refl
least_failed s t x y = refl

pair_failed_by : (told : List Entry) (ask : TripAsk) (arrival : Option ℕ) (stop region : Text) (label : Label) (list : List Text) (start : Option ℕ)
    → label.has_target ≡ has_any list → label.start ≡ start → ((t : ℕ) → label.start ≡ Some t → label.failed ≡ is_failed told (Reach region stop t))
    → failed_at told (record { stop = stop; region = region }) (improving ask arrival list start) ≡ failed_when ask arrival region (label.has_target && label.failed) start
pair_failed_by told ask arrival stop region label [] None e is says = refl
pair_failed_by told ask arrival stop region label (target ∷ more) None e is says = refl
pair_failed_by told ask arrival stop region label [] (Some start) e is says = sym (ap (λ (b : Bool). cond ((b && label.failed) && can_improve ask arrival start) (Some region) None) e)
pair_failed_by told ask arrival stop region label (target ∷ more) (Some start) e is says =
    go (can_improve ask arrival start) (is_failed told (Reach region stop start)) refl ∙ sym (ap (λ (b : Bool). cond ((b && label.failed) && can_improve ask arrival start) (Some region) None) e
    ∙ ap (λ (b : Bool). cond (b && can_improve ask arrival start) (Some region) None) (says start is))
  where
    go : (may was : Bool) → is_failed told (Reach region stop start) ≡ was
        → failed_at told (record { stop = stop; region = region }) (cond may (Some start) None) ≡ cond (is_failed told (Reach region stop start) && may) (Some region) None
    go true true w = ap (λ (b : Bool). cond b (Some region) None) w ∙ sym (ap (λ (b : Bool). cond (b && true) (Some region) None) w)
    go true false w = ap (λ (b : Bool). cond b (Some region) None) w ∙ sym (ap (λ (b : Bool). cond (b && true) (Some region) None) w)
    go false true w = sym (ap (λ (b : Bool). cond (b && false) (Some region) None) w)
    go false false w = sym (ap (λ (b : Bool). cond (b && false) (Some region) None) w)

label_failed :
    (book : Book) (ask : TripAsk) (told : List Entry) (spot : Spot) (label : Label) → IsLabel book ask told (arrivals book ask told) spot label
    → failed_at told (pair_of spot) (improving_start book ask told (pair_of spot)) ≡ failed_by ask (best book ask told) spot label
unfolding improving_start
label_failed book ask told spot label is =
    let starts : label.start ≡ least (known_starts book ask told spot.stop spot.region) = is.start_is ∙ ap least (sym (known_starts_by book ask told spot.stop spot.region)) in
    pair_failed_by told ask (best book ask told) spot.stop spot.region label (ends_towards book ask.target spot.stop spot.region) (least (known_starts book ask told spot.stop spot.region)) is.targets_are starts is.failed_is
    ∙ ap (λ (o : Option ℕ). failed_when ask (best book ask told) spot.region (label.has_target && label.failed) o) (sym starts)

failed_places_are :
    (book : Book) (ask : TripAsk) (told : List Entry) (spots : List Spot) (labels : List Label) → Pairwise (IsLabel book ask told (arrivals book ask told)) spots labels
    → failed_places ask (best book ask told) spots labels ≡ filter_map (λ pair. failed_at told pair (improving_start book ask told pair)) (map pair_of spots)
failed_places_are book ask told [] [] h = refl
failed_places_are book ask told [] (label ∷ labels) h = absurd h
failed_places_are book ask told (spot ∷ spots) [] h = absurd h
failed_places_are book ask told (spot ∷ spots) (label ∷ labels) h =
    ap (λ (o : Option Text). cons_option o (failed_places ask (best book ask told) spots labels)) (sym (label_failed book ask told spot label h.0))
    ∙ ap (λ (xs : List Text). cons_option (failed_at told (pair_of spot) (improving_start book ask told (pair_of spot))) xs) (failed_places_are book ask told spots labels h.1)

-- the least code of which a failure stands
pairs_failed :
    (book : Book) (board : Board) → IsBoardOf board book → place_state book (checks_in board.told.items) board.ask.origin ≢ Unknown
    → lesser_code (own_failed board.ask board.best board.own (home board.ask.origin)) (least_text (failed_places board.ask board.best book.spots board.labels.items)) ≡ least_text (failed_pairs book board.ask board.told.items)
unfolding failed_pairs place_state
pairs_failed book board is known = go (home board.ask.origin) refl is.own_is known
  where
    told : List Entry
    told = board.told.items

    ask : TripAsk
    ask = board.ask

    places : failed_places ask board.best book.spots board.labels.items ≡ filter_map (λ pair. failed_at told pair (improving_start book ask told pair)) (map pair_of book.spots)
    places =
        subst (λ (o : Option ℕ). failed_places ask o book.spots board.labels.items ≡ filter_map (λ pair. failed_at told pair (improving_start book ask told pair)) (map pair_of book.spots)) (sym is.best_is)
        (failed_places_are book ask told book.spots board.labels.items
        (pairwise_from (IsLabel book ask told (arrivals book ask told)) book.spots board.labels.items is.labels_are.count (λ k x y p q. is.labels_are.each k x y p q)))

    region_known : (b : Bool) (s : PlaceState) → (cond b s Unknown ≡ Unknown → ⊥) → b ≡ true
    region_known true s e = refl
    region_known false s e = absurd (e refl)

    go : (o : Option Text) → home ask.origin ≡ o → IsOwnLabel book ask told board.own o → (state_by book (checks_in told) ask.origin o ≡ Unknown → ⊥)
        → lesser_code (own_failed ask board.best board.own o) (least_text (failed_places ask board.best book.spots board.labels.items)) ≡ least_text (filter_map (λ pair. failed_at told pair (improving_start book ask told pair)) (pairs_from book ask.origin))
    go None none own state_is = ap least_text (places ∙ ap (filter_map (λ pair. failed_at told pair (improving_start book ask told pair))) (sym (no_own book ask.origin none)))
    go (Some code) own_is own state_is =
        let member : has_region book code ≡ true = region_known (has_region book code) (check_state (checks_in told) code ask.origin) state_is in
        sym (least_cons (failed_by ask board.best (own_spot ask.origin code) board.own) (failed_places ask board.best book.spots board.labels.items))
        ∙ ap least_text
        (ap (λ (o : Option ℕ). cons_option (failed_by ask o (own_spot ask.origin code) board.own) (failed_places ask board.best book.spots board.labels.items)) is.best_is
        ∙ (ap (λ (o : Option Text). cons_option o (failed_places ask board.best book.spots board.labels.items)) (sym (label_failed book ask told (own_spot ask.origin code) board.own own))
        ∙ (ap (λ (xs : List Text). cons_option (failed_at told (record { stop = ask.origin; region = code }) (improving_start book ask told (record { stop = ask.origin; region = code }))) xs) places
        ∙ ap (filter_map (λ pair. failed_at told pair (improving_start book ask told pair))) (sym (own_first book ask.origin code is.book_well is.origin_well own_is member)))))

pub fault_is :
    (book : Book) (board : Board) (check : Option Text) → IsBoardOf board book
    → check ≡ least_text (failed_check board.origin (home board.ask.origin) ++ failed_check board.target (home board.ask.target))
    → fault_by board.ask.origin board.ask.target board.origin board.target check (lesser_code (own_failed board.ask board.best board.own (home board.ask.origin)) (least_text (failed_places board.ask board.best book.spots board.labels.items))) board.best
    ≡ fault book board.ask board.told.items
unfolding fault failed_checks
fault_is book board check is checks =
    ap (λ (o : Option Text). fault_by ask.origin ask.target board.origin board.target o pair board.best) checks
    ∙ (pairs_or board.origin refl
    ∙ (ap (λ (o : Option ℕ). with_states board.origin board.target o) is.best_is
    ∙ (ap (λ (s : PlaceState). with_states s board.target (best book ask board.told.items)) is.origin_is
    ∙ ap (λ (s : PlaceState). with_states (place_state book (checks_in board.told.items) ask.origin) s (best book ask board.told.items)) is.target_is)))
  where
    ask : TripAsk
    ask = board.ask

    pair : Option Text
    pair = lesser_code (own_failed board.ask board.best board.own (home board.ask.origin)) (least_text (failed_places board.ask board.best book.spots board.labels.items))

    failed : PlaceState → Option Text
    failed s = least_text (failed_check s (home ask.origin) ++ failed_check board.target (home ask.target))

    with_states : PlaceState → PlaceState → Option ℕ → Option Fault
    with_states s t arrival = fault_by ask.origin ask.target s t (least_text (failed_check s (home ask.origin) ++ failed_check t (home ask.target))) (least_text (failed_pairs book ask board.told.items)) arrival

    heard : (s : PlaceState) → s ≢ Unknown → board.origin ≡ s → place_state book (checks_in board.told.items) ask.origin ≢ Unknown
    heard s other e h = other (sym e ∙ (is.origin_is ∙ h))

    by_pairs : (s : PlaceState) → s ≢ Unknown → board.origin ≡ s → fault_by ask.origin ask.target s board.target (failed s) pair board.best ≡ with_states s board.target board.best
    by_pairs s other e = ap (λ (o : Option Text). fault_by ask.origin ask.target s board.target (failed s) o board.best) (pairs_failed book board is (heard s other e))

    pairs_or : (s : PlaceState) → board.origin ≡ s → fault_by ask.origin ask.target s board.target (failed s) pair board.best ≡ with_states s board.target board.best
    pairs_or Unknown e = refl
    pairs_or Known e = by_pairs Known known_unknown e
    pairs_or Unheard e = by_pairs Unheard (λ h. unknown_unheard (sym h)) e
    pairs_or CheckFailed e = by_pairs CheckFailed (λ h. unknown_failed (sym h)) e

-- one place more, from the end
pub failed_more : (ask : TripAsk) (arrival : Option ℕ) (spots : List Spot) (labels : List Label) (place : ℕ) (spot : Spot) (label : Label) → slice_get spots place ≡ Some spot → slice_get labels place ≡ Some label
    → least_text (failed_places ask arrival (drop place spots) (drop place labels)) ≡ lesser_code (failed_by ask arrival spot label) (least_text (failed_places ask arrival (drop (place + 1) spots) (drop (place + 1) labels)))
failed_more ask arrival [] labels place spot label at is = absurd (none-some spot at)
failed_more ask arrival (x ∷ spots) [] place spot label at is = absurd (none-some label is)
failed_more ask arrival (x ∷ spots) (y ∷ labels) zero spot label at is =
    least_cons (failed_by ask arrival x y) (failed_places ask arrival spots labels)
    ∙ (ap (λ (s : Spot). lesser_code (failed_by ask arrival s y) (least_text (failed_places ask arrival spots labels))) (same_Some x spot at)
    ∙ ap (λ (l : Label). lesser_code (failed_by ask arrival spot l) (least_text (failed_places ask arrival spots labels))) (same_Some y label is))
failed_more ask arrival (x ∷ spots) (y ∷ labels) (suc place) spot label at is =
    let n : suc place + 1 ≡ suc (place + 1) = omega arith in
    failed_more ask arrival spots labels place spot label at is
    ∙ ap (λ (k : ℕ). lesser_code (failed_by ask arrival spot label) (least_text (failed_places ask arrival (drop k (x ∷ spots)) (drop k (y ∷ labels))))) (sym n)
