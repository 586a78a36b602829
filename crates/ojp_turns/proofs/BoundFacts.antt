-- The bound on asks: each ask lowers what may still be asked at its number.
use Rattle.std.proofs.Common.{◌≡◌, ◌≢◌, ℕ, zero, suc, ◌+◌, ◌-◌, ◌*◌, ◌^◌, ◌<◌, ◌≤◌, Bool, true, false, cond, List, [], ◌∷◌, map, Option, Some, None, length, get_or, set, refl, sym, ◌∙◌, ap, subst, inl, inr, arith, slice_get, IsTrue}
use Rattle.std.specs.List.{count_by}
use Rattle.std.proofs.lemmas.Bool.{cases_Bool}
use Rattle.std.proofs.lemmas.List.{length-map}
use Rattle.std.proofs.lemmas.List.Sums.{sum_by-cons}
use Rattle.std.proofs.lemmas.Option.{none-some, same_Some, slice_get-get_or}
use Rattle.ojp_values.specs.Lists.{Among}
use Rattle.ojp_values.specs.Texts.{Text, same, home, is_stop_ref}
use Rattle.ojp_values.specs.declared.asks.TripAsk.{TripAsk}
use Rattle.ojp_values.proofs.ListFacts.{Member, among_map_back}
use Rattle.ojp_timetable.proofs.TextFacts.{is_same}
use Rattle.ojp_timetable.specs.Runs.{day_long}
use Rattle.ojp_exchange.specs.Book.{Book, Spot, has_region}
use Rattle.ojp_exchange.specs.Kept.{IsWellBook}
use Rattle.ojp_records.specs.declared.queries.Query.{Query}
use Rattle.ojp_records.specs.declared.queries.Query.TheVariants.{Check, Reach}
use Rattle.ojp_records.specs.declared.queries.Entry.{Entry}
use Rattle.ojp_records.specs.Pairs.{Pair, placed, with_own, pair_of, pairs_from}
use Rattle.ojp_records.specs.Places.{check}
use Rattle.ojp_records.specs.Told.{IsRecord}
use Rattle.ojp_records.specs.Wanted.{PairWanted, wanted}
use Rattle.ojp_records.proofs.BoardFacts.{asked_starts_fall, wanted_starts_are_within}
use Rattle.ojp_records.proofs.OwnPair.{own_first, no_own}
use Rattle.ojp_records.proofs.PairFacts.{no_home}
use Rattle.ojp_records.proofs.PlaceFacts.{OriginCheck, TargetCheck, AtPair}
use Rattle.ojp_records.proofs.WantedFacts.{WantedBy, wanted_by, check_is, pair_wanted}
use Rattle.ojp_turns.specs.Slots.{IsCheckOf, MayStandAt, at_origin, at_target, at_own, at_place, WasWanted, IsLastAt, pair_count, full_at, left_at, left_from, most_asks, IsWithinBound}

-- ---- the sum over the numbers

-- what is left changes at the number alone
pub left_set : (book : Book) (ask : TripAsk) (n k m : ℕ) (v : Option Query) (xs : List (Option Query)) → m ≡ n + k → k < length xs
    → left_from book ask n (set xs k v) + left_at book ask m (get_or xs k None) ≡ left_from book ask n xs + left_at book ask m v
unfolding left_from
left_set book ask n k m v [] e below = absurd (omega (arith, below))
left_set book ask n zero m v (x ∷ xs) e below =
    let here : m ≡ n = omega (arith, e) in
    let old : left_at book ask m x ≡ left_at book ask n x = ap (λ (j : ℕ). left_at book ask j x) here in
    let new : left_at book ask m v ≡ left_at book ask n v = ap (λ (j : ℕ). left_at book ask j v) here in
    omega (arith, old, new)
left_set book ask n (suc k) m v (x ∷ xs) e below =
    let rest : left_from book ask (suc n) (set xs k v) + left_at book ask m (get_or xs k None) ≡ left_from book ask (suc n) xs + left_at book ask m v =
    left_set book ask (suc n) k m v xs (omega (arith, e)) (omega (arith, below)) in
    omega (arith, rest)

-- where nothing was asked of the pairs
left_places : (book : Book) (ask : TripAsk) (n : ℕ) (xs : List (Option Query)) → ((k : ℕ) (query : Query) → slice_get xs k ≡ Some (Some query) → ⊥) → left_from book ask (suc (suc (suc n))) xs ≡ 86401 * length xs
unfolding left_from left_at full_at
left_places book ask n [] none = refl
left_places book ask n (Some query ∷ xs) none = absurd (none 0 query refl)
left_places book ask n (None ∷ xs) none =
    let rest : left_from book ask (suc (suc (suc (suc n)))) xs ≡ 86401 * length xs = left_places book ask (suc n) xs (λ k query e. none (suc k) query e) in
    omega (arith, rest)

-- the pairs where the own region is none of the book
pub other_pairs : (book : Book) (begin code : Text) → home begin ≡ Some code → has_region book code ≡ false → pairs_from book begin ≡ map pair_of book.spots
unfolding pairs_from
other_pairs book begin code own unknown =
    ap (λ (o : Option Text). with_own book begin o (map pair_of book.spots)) own
    ∙ ap (λ (b : Bool). cond b (placed (record { stop = begin; region = code }) (map pair_of book.spots)) (map pair_of book.spots)) unknown

-- there are pairs for all places
pub pairs_long : (book : Book) (ask : TripAsk) → IsWellBook book → IsTrue (is_stop_ref ask.origin) → (length book.spots ≤ pair_count book ask) × (pair_count book ask ≤ length book.spots + 1)
unfolding pair_count
pairs_long book ask well ref = go (home ask.origin) refl
  where
    spots_are : length (map pair_of book.spots) ≡ length book.spots
    spots_are = length-map book.spots pair_of

    go : (code : Option Text) → home ask.origin ≡ code → (length book.spots ≤ length (pairs_from book ask.origin)) × (length (pairs_from book ask.origin) ≤ length book.spots + 1)
    go None own =
        let long : length (pairs_from book ask.origin) ≡ length (map pair_of book.spots) = ap length (no_own book ask.origin own) in
        (omega (arith, long, spots_are), omega (arith, long, spots_are))
    go (Some code) own =
        elim (cases_Bool (has_region book code)) [
          | inl known ↦
              let long : length (pairs_from book ask.origin) ≡ length (record { stop = ask.origin; region = code } ∷ map pair_of book.spots) = ap length (own_first book ask.origin code well ref own known) in
              (omega (arith, long, spots_are), omega (arith, long, spots_are))
          | inr unknown ↦
              let long : length (pairs_from book ask.origin) ≡ length (map pair_of book.spots) = ap length (other_pairs book ask.origin code own unknown) in
              (omega (arith, long, spots_are), omega (arith, long, spots_are))
        ]

-- before anything was asked
pub none_bounded : (book : Book) (ask : TripAsk) (xs : List (Option Query)) → IsWellBook book → IsTrue (is_stop_ref ask.origin) → length xs ≡ length book.spots + 3 → ((k : ℕ) (query : Query) → slice_get xs k ≡ Some (Some query) → ⊥)
    → left_from book ask 0 xs ≤ most_asks book ask
unfolding left_from left_at full_at
none_bounded book ask [] well ref long none = absurd (omega (arith, long))
none_bounded book ask (Some a ∷ xs) well ref long none = absurd (none 0 a refl)
none_bounded book ask (None ∷ []) well ref long none = absurd (omega (arith, long))
none_bounded book ask (None ∷ Some b ∷ xs) well ref long none = absurd (none 1 b refl)
none_bounded book ask (None ∷ None ∷ []) well ref long none = absurd (omega (arith, long))
none_bounded book ask (None ∷ None ∷ Some c ∷ xs) well ref long none = absurd (none 2 c refl)
none_bounded book ask (None ∷ None ∷ None ∷ xs) well ref long none =
    let rest : left_from book ask 3 xs ≡ 86401 * length xs = left_places book ask 0 xs (λ k query e. none (suc (suc (suc k))) query e) in
    let pairs : (length book.spots ≤ pair_count book ask) × (pair_count book ask ≤ length book.spots + 1) = pairs_long book ask well ref in
    omega (arith, rest, long, pairs.0)

-- ---- each ask lowers it

-- the origin's own pair is wanted only where its region is one of the book
own_known : (book : Book) (ask : TripAsk) (told : List Entry) (region : Text) (start : ℕ) → IsWellBook book → home ask.origin ≡ Some region → Among (Reach region ask.origin start) (wanted book ask told) → has_region book region ≡ true
own_known book ask told region start well own h =
    elim (cases_Bool (has_region book region)) [
      | inl known ↦ known
      | inr unknown ↦ absurd (go (other_pairs book ask.origin region own unknown) (wanted_by book ask told (Reach region ask.origin start) h))
    ]
  where
    no_check : (place : Text) → Among (Reach region ask.origin start) (check place) → ⊥
    no_check place i =
        let is : (code : Text) × (home place ≡ Some code) × (Reach region ask.origin start ≡ Check code place) = check_is place (Reach region ask.origin start) i in
        let both : Reach region ask.origin start ≡ Check is.0 place = is.2 in
        cc

    go : pairs_from book ask.origin ≡ map pair_of book.spots → WantedBy book ask told (Reach region ask.origin start) → ⊥
    go are (OriginCheck o i) = no_check ask.origin i
    go are (TargetCheck k t i) = no_check ask.target i
    go are (AtPair o t i) =
        let w : PairWanted book ask told (Reach region ask.origin start) = pair_wanted book ask told (Reach region ask.origin start) i in
        let is : Reach region ask.origin start ≡ Reach w.pair.region w.pair.stop w.start = w.is in
        let stops : ask.origin ≡ w.pair.stop = cc in
        let m : Member book.spots (λ (spot : Spot). w.pair ≡ pair_of spot) = among_map_back pair_of w.pair book.spots (subst (Among w.pair) are w.listed) in
        let none : home m.item.stop ≡ None = no_home m.item.stop (well.exchange m.item m.among) in
        none-some region (sym none ∙ (ap home (sym (stops ∙ ap (λ (p : Pair). p.stop) m.holds)) ∙ own))

same_text : (x y : Text) → Some x ≡ Some y → x ≡ y
same_text x y e = same_Some x y e

module _ (book : Book) (ask : TripAsk) (told : List Entry) (query : Query) (well : IsWellBook book) (ref : IsTrue (is_stop_ref ask.origin)) (record_of : IsRecord book ask told) (is : Among query (wanted book ask told)) where
  check_left : (number : ℕ) (stop : Text) → IsCheckOf stop query → left_at book ask number (Some query) ≡ 0
  unfolding left_at
  check_left number stop c = ap (λ (q : Query). left_at book ask number (Some q)) c.2

  reach_left : (number : ℕ) (region stop : Text) (start : ℕ) → query ≡ Reach region stop start → left_at book ask number (Some query) + 1 ≤ 86401
  unfolding left_at
  reach_left number region stop start e =
      let left : left_at book ask number (Some query) ≡ start - ask.start = ap (λ (q : Query). left_at book ask number (Some q)) e in
      let within : (ask.start ≤ start) × (start ≤ ask.start + day_long) = wanted_starts_are_within book ask told region stop start record_of (subst (λ (q : Query). Among q (wanted book ask told)) e is) in
      omega (arith, left, within.0, within.1)

  -- at a number where nothing was asked
  falls_none : (number : ℕ) → MayStandAt book ask number query → left_at book ask number (Some query) + 1 ≤ left_at book ask number None
  unfolding left_at full_at pair_count
  falls_none number (at_origin e c) =
      let none : left_at book ask number (Some query) ≡ 0 = check_left number ask.origin c in
      let full : full_at book ask number ≡ 1 = ap (full_at book ask) e in
      omega (arith, none, full)
  falls_none number (at_target e c) =
      let none : left_at book ask number (Some query) ≡ 0 = check_left number ask.target c in
      let full : full_at book ask number ≡ 1 = ap (full_at book ask) e in
      omega (arith, none, full)
  falls_none number (at_own e c) =
      let low : left_at book ask number (Some query) + 1 ≤ 86401 = reach_left number c.0 ask.origin c.1 c.3 in
      let known : has_region book c.0 ≡ true = own_known book ask told c.0 c.1 well c.2 (subst (λ (q : Query). Among q (wanted book ask told)) c.3 is) in
      let full : full_at book ask number ≡ 86401 * (pair_count book ask - length book.spots) = ap (full_at book ask) e in
      let long : pair_count book ask ≡ length (record { stop = ask.origin; region = c.0 } ∷ map pair_of book.spots) = ap length (own_first book ask.origin c.0 well ref c.2 known) in
      let spots : length (map pair_of book.spots) ≡ length book.spots = length-map book.spots pair_of in
      let one : pair_count book ask - length book.spots ≡ 1 = omega (arith, long, spots) in
      let all : full_at book ask number ≡ 86401 = full ∙ ap (λ (k : ℕ). 86401 * k) one in
      omega (arith, low, all)
  falls_none number (at_place place e c) =
      let low : left_at book ask number (Some query) + 1 ≤ 86401 = reach_left number c.0.region c.0.stop c.1 c.3 in
      let at : number ≡ suc (suc (suc place)) = omega (arith, e) in
      let full : full_at book ask number ≡ 86401 = ap (full_at book ask) at in
      omega (arith, low, full)

  -- a pair that was asked at another start
  reach_falls : (number : ℕ) (other : Query) (region stop : Text) (start moment : ℕ) → query ≡ Reach region stop start → other ≡ Reach region stop moment → WasWanted book ask told other → other ≢ query
      → left_at book ask number (Some query) + 1 ≤ left_at book ask number (Some other)
  unfolding left_at
  reach_falls number other region stop start moment e f was differ =
      let left : left_at book ask number (Some query) ≡ start - ask.start = ap (λ (q : Query). left_at book ask number (Some q)) e in
      let before : left_at book ask number (Some other) ≡ moment - ask.start = ap (λ (q : Query). left_at book ask number (Some q)) f in
      let within : (ask.start ≤ start) × (start ≤ ask.start + day_long) = wanted_starts_are_within book ask told region stop start record_of (subst (λ (q : Query). Among q (wanted book ask told)) e is) in
      let less : start < moment =
      asked_starts_fall book ask was.before was.since region stop moment start
      (subst (λ (q : Query). Among q (wanted book ask was.before)) f was.wanted_then)
      (subst (λ (xs : List Entry). Among (Reach region stop start) (wanted book ask xs)) (sym was.split) (subst (λ (q : Query). Among q (wanted book ask told)) e is))
      (λ same_start. differ (f ∙ (ap (Reach region stop) same_start ∙ sym e))) in
      omega (arith, left, before, within.0, less)

  same_checks : (stop : Text) (other : Query) → IsCheckOf stop query → IsCheckOf stop other → other ≡ query
  same_checks stop other a b = b.2 ∙ (ap (λ (r : Text). Check r stop) (same_text b.0 a.0 (sym b.1 ∙ a.1)) ∙ sym a.2)

  falls_some : (number : ℕ) (other : Query) → MayStandAt book ask number query → MayStandAt book ask number other → WasWanted book ask told other → other ≢ query
      → left_at book ask number (Some query) + 1 ≤ left_at book ask number (Some other)
  falls_some number other (at_origin e a) (at_origin f b) was differ = absurd (differ (same_checks ask.origin other a b))
  falls_some number other (at_origin e a) (at_target f b) was differ = absurd (omega (arith, e, f))
  falls_some number other (at_origin e a) (at_own f b) was differ = absurd (omega (arith, e, f))
  falls_some number other (at_origin e a) (at_place q f b) was differ = absurd (omega (arith, e, f))
  falls_some number other (at_target e a) (at_origin f b) was differ = absurd (omega (arith, e, f))
  falls_some number other (at_target e a) (at_target f b) was differ = absurd (differ (same_checks ask.target other a b))
  falls_some number other (at_target e a) (at_own f b) was differ = absurd (omega (arith, e, f))
  falls_some number other (at_target e a) (at_place q f b) was differ = absurd (omega (arith, e, f))
  falls_some number other (at_own e a) (at_origin f b) was differ = absurd (omega (arith, e, f))
  falls_some number other (at_own e a) (at_target f b) was differ = absurd (omega (arith, e, f))
  falls_some number other (at_own e a) (at_own f b) was differ =
      reach_falls number other a.0 ask.origin a.1 b.1 a.3 (b.3 ∙ ap (λ (r : Text). Reach r ask.origin b.1) (same_text b.0 a.0 (sym b.2 ∙ a.2))) was differ
  falls_some number other (at_own e a) (at_place q f b) was differ = absurd (omega (arith, e, f))
  falls_some number other (at_place p e a) (at_origin f b) was differ = absurd (omega (arith, e, f))
  falls_some number other (at_place p e a) (at_target f b) was differ = absurd (omega (arith, e, f))
  falls_some number other (at_place p e a) (at_own f b) was differ = absurd (omega (arith, e, f))
  falls_some number other (at_place p e a) (at_place q f b) was differ =
      let same_place : q ≡ p = omega (arith, e, f) in
      let spots : b.0 ≡ a.0 = same_Some b.0 a.0 (sym b.2 ∙ (ap (slice_get book.spots) same_place ∙ a.2)) in
      reach_falls number other a.0.region a.0.stop a.1 b.1 a.3 (b.3 ∙ ap (λ (s : Spot). Reach s.region s.stop b.1) spots) was differ

  -- what is left at the number falls by the ask
  pub left_falls : (number : ℕ) (last : List (Option Query)) → number < length last → MayStandAt book ask number query
      → ((other : Query) → IsLastAt last number other → MayStandAt book ask number other × WasWanted book ask told other) → (IsLastAt last number query → ⊥)
      → left_at book ask number (Some query) + 1 ≤ left_at book ask number (get_or last number None)
  left_falls number last within may others new = go (get_or last number None) refl
    where
      at : (x : Option Query) → get_or last number None ≡ x → slice_get last number ≡ Some x
      at x e = slice_get-get_or last number None within ∙ ap Some e

      go : (x : Option Query) → get_or last number None ≡ x → left_at book ask number (Some query) + 1 ≤ left_at book ask number (get_or last number None)
      go None e = subst (λ (x : Option Query). left_at book ask number (Some query) + 1 ≤ left_at book ask number x) (sym e) (falls_none number may)
      go (Some other) e =
          let it : MayStandAt book ask number other × WasWanted book ask told other = others other (at (Some other) e) in
          subst (λ (x : Option Query). left_at book ask number (Some query) + 1 ≤ left_at book ask number x) (sym e)
          (falls_some number other may it.0 it.1 (λ same_one. new (at (Some query) (e ∙ ap Some same_one))))

-- the bound after the ask
pub bounded_more : (book : Book) (ask : TripAsk) (last : List (Option Query)) (asks number : ℕ) (query : Query) → number < length last
    → left_at book ask number (Some query) + 1 ≤ left_at book ask number (get_or last number None) → IsWithinBound book ask last asks → IsWithinBound book ask (set last number (Some query)) (asks + 1)
bounded_more book ask last asks number query within falls bound =
    let changed : left_from book ask 0 (set last number (Some query)) + left_at book ask number (get_or last number None) ≡ left_from book ask 0 last + left_at book ask number (Some query) =
    left_set book ask 0 number number (Some query) last (omega arith) within in
    omega (arith, changed, falls, bound)

-- ---- the number of places

counts : List Text → List Spot → ℕ
counts [] spots = 0
counts (code ∷ codes) spots = count_by (λ (spot : Spot). same code spot.region) spots + counts codes spots

count_up : (b : Bool) → 0 ≤ cond b 1 0
count_up true = omega arith
count_up false = omega arith

counts_more : (codes : List Text) (spot : Spot) (spots : List Spot) → counts codes spots ≤ counts codes (spot ∷ spots)
unfolding counts
counts_more [] spot spots = omega arith
counts_more (code ∷ codes) spot spots =
    let step : count_by (λ (it : Spot). same code it.region) (spot ∷ spots) ≡ cond (same code spot.region) 1 0 + count_by (λ (it : Spot). same code it.region) spots = sum_by-cons (λ (it : Spot). cond (same code it.region) 1 0) spot spots in
    let here : 0 ≤ cond (same code spot.region) 1 0 = count_up (same code spot.region) in
    omega (arith, step, here, counts_more codes spot spots)

counts_one : (codes : List Text) (spot : Spot) (spots : List Spot) → Among spot.region codes → counts codes spots + 1 ≤ counts codes (spot ∷ spots)
unfolding counts
counts_one [] spot spots h = absurd h
counts_one (code ∷ codes) spot spots (inl e) =
    let step : count_by (λ (it : Spot). same code it.region) (spot ∷ spots) ≡ cond (same code spot.region) 1 0 + count_by (λ (it : Spot). same code it.region) spots = sum_by-cons (λ (it : Spot). cond (same code it.region) 1 0) spot spots in
    let here : ◌≡◌ {A = ℕ} (cond (same code spot.region) 1 0) 1 = ap (λ (b : Bool). cond b 1 0) (is_same code spot.region (sym e)) in
    omega (arith, step, here, counts_more codes spot spots)
counts_one (code ∷ codes) spot spots (inr h) =
    let step : count_by (λ (it : Spot). same code it.region) (spot ∷ spots) ≡ cond (same code spot.region) 1 0 + count_by (λ (it : Spot). same code it.region) spots = sum_by-cons (λ (it : Spot). cond (same code it.region) 1 0) spot spots in
    let here : 0 ≤ cond (same code spot.region) 1 0 = count_up (same code spot.region) in
    omega (arith, step, here, counts_one codes spot spots h)

counts_all : (codes : List Text) (spots : List Spot) → ((spot : Spot) → Among spot spots → Among spot.region codes) → length spots ≤ counts codes spots
counts_all codes [] known = omega arith
counts_all codes (spot ∷ spots) known =
    omega (arith, counts_all codes spots (λ s h. known s (inr h)), counts_one codes spot spots (known spot (inl refl)))

counts_few : (codes : List Text) (spots : List Spot) → ((region : Text) → count_by (λ (spot : Spot). same region spot.region) spots ≤ 255) → counts codes spots ≤ 255 * length codes
unfolding counts
counts_few [] spots few = omega arith
counts_few (code ∷ codes) spots few = omega (arith, few code, counts_few codes spots few)

-- a book has few spots
pub spots_few : (book : Book) → IsWellBook book → length book.spots ≤ 8160
spots_few book well =
    let all : length book.spots ≤ counts book.codes book.spots = counts_all book.codes book.spots well.known in
    let few : counts book.codes book.spots ≤ 255 * length book.codes = counts_few book.codes book.spots well.few in
    omega (arith, all, few, well.sound.regions_few)

-- the most asks fit, and one more
pub asks_few : (book : Book) (ask : TripAsk) (asks : ℕ) → IsWellBook book → IsTrue (is_stop_ref ask.origin) → asks ≤ most_asks book ask → asks + 1 < 2 ^ 64
asks_few book ask asks well ref bound =
    let pairs : pair_count book ask ≤ length book.spots + 1 = (pairs_long book ask well ref).1 in
    omega (arith, spots_few book well, pairs, bound)

pub asks_fit : (book : Book) (ask : TripAsk) (asks : ℕ) → IsWellBook book → IsTrue (is_stop_ref ask.origin) → asks ≤ most_asks book ask → asks < 2 ^ 64
asks_fit book ask asks well ref bound = omega (arith, asks_few book ask asks well ref bound)
