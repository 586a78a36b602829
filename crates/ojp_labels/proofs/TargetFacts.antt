-- The targets of a pair: whether there is one, and all of them.
use Rattle.std.proofs.Common.{◌≡◌, ◌==◌, ℕ, suc, not, ◌+◌, ◌<◌, ◌≤◌, Bool, true, false, cond, ◌||◌, List, [], ◌∷◌, ◌++◌, map, Some, length, refl, sym, ◌∙◌, ap, subst, arith, slice_get}
use Rattle.std.specs.List.{filter, list_any}
use Rattle.std.proofs.lemmas.List.{append-nil}
use Rattle.ojp_values.specs.Texts.{Text, same}
use Rattle.ojp_values.specs.declared.asks.TripAsk.{TripAsk}
use Rattle.ojp_exchange.specs.Book.{Book, Spot, is_declared, serves}
use Rattle.ojp_exchange.specs.Kept.{regions_of}
use Rattle.ojp_exchange.specs.Places.{AreWays}
use Rattle.ojp_records.specs.Pairs.{ends_towards, served_goal}
use Rattle.ojp_labels.specs.Boards.{has_any}
use Rattle.ojp_labels.specs.Hearing.{is_away, ways_on, stops_to, way_stops}
use Rattle.ojp_labels.proofs.HearFacts.{WayHere, way_here, stops_more, taken_below, all_stops, targets_split, targets_long}

has_any_long : {X : Type 0} (xs : List X) → 0 < length xs → has_any xs ≡ true
has_any_long [] h = absurd (omega arith)
has_any_long (x ∷ xs) h = refl

served_any : (b : Bool) (goal : Text) → has_any (cond b (goal ∷ []) []) ≡ b
served_any true goal = refl
served_any false goal = refl

-- a way that is away is a target
pub away_any : (book : Book) (ask : TripAsk) (stop region : Text) (i : ℕ) (spot : Spot) → slice_get (ways_on book region) i ≡ Some spot → is_away ask stop spot ≡ true → true ≡ has_any (ends_towards book ask.target stop region)
away_any book ask stop region i spot at away =
    let below : length (stops_to book ask stop region i) < length (way_stops book ask stop region) = taken_below book ask stop region i (length (stops_to book ask stop region i)) spot at away refl in
    let long : length (ends_towards book ask.target stop region) ≡ length (way_stops book ask stop region) + length (served_goal book ask.target region) = targets_long book ask stop region in
    sym (has_any_long (ends_towards book ask.target stop region) (omega arith))

-- a way that is not away is none
pub stops_past : (book : Book) (ask : TripAsk) (stop region : Text) (i : ℕ) (spot : Spot) → slice_get (ways_on book region) i ≡ Some spot → is_away ask stop spot ≡ false → stops_to book ask stop region (i + 1) ≡ stops_to book ask stop region i
stops_past book ask stop region i spot at near =
    stops_more book ask stop region i spot at ∙ (ap (λ (b : Bool). stops_to book ask stop region i ++ map (λ (s : Spot). s.stop) (cond b (spot ∷ []) [])) near ∙ append-nil (stops_to book ask stop region i))

pub stops_next : (book : Book) (ask : TripAsk) (stop region : Text) (i : ℕ) (spot : Spot) → slice_get (ways_on book region) i ≡ Some spot → is_away ask stop spot ≡ true → stops_to book ask stop region (i + 1) ≡ stops_to book ask stop region i ++ spot.stop ∷ []
stops_next book ask stop region i spot at away =
    stops_more book ask stop region i spot at ∙ ap (λ (b : Bool). stops_to book ask stop region i ++ map (λ (s : Spot). s.stop) (cond b (spot ∷ []) [])) away

-- where no way is a target, the requested one may be
pub none_any : (book : Book) (ask : TripAsk) (stop region : Text) (ways : List ℕ) (i : ℕ) → AreWays book region ways → length ways ≤ i → stops_to book ask stop region i ≡ [] → serves book region ask.target ≡ has_any (ends_towards book ask.target stop region)
none_any book ask stop region ways i are past none =
    sym (ap has_any (targets_split book ask stop region ∙ ap (λ (xs : List Text). xs ++ served_goal book ask.target region) (sym (all_stops book ask stop region ways i are past) ∙ none))
    ∙ served_any (serves book region ask.target) ask.target)

-- all targets, where the region serves the requested one and where it does not
pub with_goal : (book : Book) (ask : TripAsk) (stop region : Text) (stops : List Text) → stops ≡ way_stops book ask stop region → serves book region ask.target ≡ true → stops ++ ask.target ∷ [] ≡ ends_towards book ask.target stop region
with_goal book ask stop region stops is served =
    ap (λ (xs : List Text). xs ++ ask.target ∷ []) is
    ∙ sym (targets_split book ask stop region ∙ ap (λ (b : Bool). way_stops book ask stop region ++ cond b (ask.target ∷ []) []) served)

pub without_goal : (book : Book) (ask : TripAsk) (stop region : Text) (stops : List Text) → stops ≡ way_stops book ask stop region → serves book region ask.target ≡ false → stops ≡ ends_towards book ask.target stop region
without_goal book ask stop region stops is unserved =
    is ∙ sym (targets_split book ask stop region ∙ (ap (λ (b : Bool). way_stops book ask stop region ++ cond b (ask.target ∷ []) []) unserved ∙ append-nil (way_stops book ask stop region)))

-- some element has it exactly where what is kept of them is not empty
pub any_kept : {X Y : Type 0} (p : X → Bool) (f : X → Y) (xs : List X) → list_any p xs ≡ has_any (map f (filter p xs))
any_kept p f [] = refl
any_kept p f (x ∷ xs) = go (p x) (any_kept p f xs)
  where
    go : (b : Bool) → list_any p xs ≡ has_any (map f (filter p xs)) → (b || list_any p xs) ≡ has_any (map f (cond b (x ∷ filter p xs) (filter p xs)))
    go true rest = refl
    go false rest = rest

empty_any : {X : Type 0} (xs : List X) → not (length xs == 0) ≡ has_any xs
empty_any [] = refl
empty_any (x ∷ xs) = ap not (is_differ_zero (length xs))
  where
    is_differ_zero : (n : ℕ) → (suc n == 0) ≡ false
    is_differ_zero n = grind arith

-- some region declares the stop exactly where those that do are not none
pub declared_by : (book : Book) (stop : Text) (regions : List Text) (is_empty : Bool) → is_empty ≡ (length regions == 0) → regions ≡ regions_of book stop → not is_empty ≡ is_declared book stop
unfolding is_declared regions_of
declared_by book stop regions is_empty empty are =
    ap not empty
    ∙ (empty_any regions
    ∙ (ap has_any are ∙ sym (any_kept (λ (spot : Spot). same stop spot.stop) (λ (spot : Spot). spot.region) book.spots)))
