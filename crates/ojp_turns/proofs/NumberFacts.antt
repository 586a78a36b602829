-- At which number a wanted query stands.
use Rattle.std.proofs.Common.{◌≡◌, ◌≢◌, ℕ, zero, suc, ◌+◌, ◌<◌, Bool, true, false, List, [], ◌∷◌, map, Option, Some, None, length, get_or, refl, sym, ◌∙◌, ap, subst, inl, inr, arith, slice_get, IsTrue}
use Rattle.std.proofs.lemmas.Option.{none-some, same_Some}
use Rattle.ojp_values.specs.Lists.{Among}
use Rattle.ojp_values.specs.Texts.{Text, home, is_stop_ref}
use Rattle.ojp_values.specs.declared.asks.TripAsk.{TripAsk}
use Rattle.ojp_exchange.specs.Book.{Book, Spot}
use Rattle.ojp_exchange.specs.Kept.{IsWellBook}
use Rattle.ojp_exchange.proofs.SpotFacts.{one_place}
use Rattle.ojp_records.specs.declared.queries.Query.{Query}
use Rattle.ojp_records.specs.declared.queries.Query.TheVariants.{Check, Reach}
use Rattle.ojp_records.specs.declared.queries.Entry.{Entry}
use Rattle.ojp_records.specs.declared.places.PlaceState.{PlaceState}
use Rattle.ojp_records.specs.declared.places.PlaceState.TheVariants.{Known, Unknown, Unheard, CheckFailed}
use Rattle.ojp_records.specs.Places.{checks_in, place_state}
use Rattle.ojp_records.specs.Pairs.{Pair, pair_of}
use Rattle.ojp_records.specs.Wanted.{improving_start, reach_at, wanted}
use Rattle.ojp_records.proofs.PairFacts.{no_home}
use Rattle.ojp_records.proofs.WantedFacts.{wanted_start}
use Rattle.ojp_labels.specs.Slots.{somes, check_at, origin_slot, target_slot, are_known, known_slot, pair_slot, own_pair_slot, slots_by, slots}
use Rattle.ojp_labels.proofs.SlotFacts.{known_is, slot_reach, slots_wanted}
use Rattle.ojp_turns.specs.Slots.{IsCheckOf, IsOwnReach, IsPlaceReach, MayStandAt, at_origin, at_target, at_own, at_place}

-- ---- what stands at a number

check_by : (stop : Text) (code : Option Text) (query : Query) → home stop ≡ code → check_at stop code ≡ Some query → IsCheckOf stop query
check_by stop None query own e = absurd (cc)
check_by stop (Some code) query own e = (code, own, sym (same_Some (Check code stop) query e))

origin_check : (ask : TripAsk) (o : PlaceState) (query : Query) → origin_slot ask o ≡ Some query → IsCheckOf ask.origin query
origin_check ask Unheard query e = check_by ask.origin (home ask.origin) query refl e
origin_check ask Known query e = absurd (cc)
origin_check ask Unknown query e = absurd (cc)
origin_check ask CheckFailed query e = absurd (cc)

target_check : (ask : TripAsk) (o t : PlaceState) (query : Query) → target_slot ask o t ≡ Some query → IsCheckOf ask.target query
target_check ask Unknown t query e = absurd (cc)
target_check ask Known Unheard query e = check_by ask.target (home ask.target) query refl e
target_check ask Unheard Unheard query e = check_by ask.target (home ask.target) query refl e
target_check ask CheckFailed Unheard query e = check_by ask.target (home ask.target) query refl e
target_check ask Known Known query e = absurd (cc)
target_check ask Known Unknown query e = absurd (cc)
target_check ask Known CheckFailed query e = absurd (cc)
target_check ask Unheard Known query e = absurd (cc)
target_check ask Unheard Unknown query e = absurd (cc)
target_check ask Unheard CheckFailed query e = absurd (cc)
target_check ask CheckFailed Known query e = absurd (cc)
target_check ask CheckFailed Unknown query e = absurd (cc)
target_check ask CheckFailed CheckFailed query e = absurd (cc)

own_by : (book : Book) (ask : TripAsk) (told : List Entry) (code : Option Text) (query : Query) → home ask.origin ≡ code → own_pair_slot book ask told code ≡ Some query → IsOwnReach ask query
own_by book ask told None query own e = absurd (cc)
own_by book ask told (Some code) query own e =
    let it : (start : ℕ) × (query ≡ Reach code ask.origin start) = slot_reach book ask told (record { stop = ask.origin; region = code }) query e in
    (code, it.0, own, it.1)

-- the place of what is wanted of a pair
place_by : (book : Book) (ask : TripAsk) (told : List Entry) (known : Bool) (spots : List Spot) (place : ℕ) (query : Query)
    → get_or (map (known_slot known) (map (λ (spot : Spot). pair_slot book ask told (pair_of spot)) spots)) place None ≡ Some query
    → (spot : Spot) × (start : ℕ) × (slice_get spots place ≡ Some spot) × (query ≡ Reach spot.region spot.stop start)
place_by book ask told known [] place query e = absurd (cc)
place_by book ask told known (spot ∷ spots) zero query e =
    let it : (start : ℕ) × (query ≡ Reach spot.region spot.stop start) = slot_reach book ask told (pair_of spot) query (known_is known (pair_slot book ask told (pair_of spot)) query e) in
    (spot, it.0, refl, it.1)
place_by book ask told known (spot ∷ spots) (suc place) query e = place_by book ask told known spots place query e

stands_by : (book : Book) (ask : TripAsk) (told : List Entry) (o t : PlaceState) (number : ℕ) (query : Query) → get_or (slots_by book ask told o t) number None ≡ Some query → MayStandAt book ask number query
stands_by book ask told o t zero query e = at_origin refl (origin_check ask o query e)
stands_by book ask told o t (suc zero) query e = at_target refl (target_check ask o t query e)
stands_by book ask told o t (suc (suc zero)) query e = at_own refl (own_by book ask told (home ask.origin) query refl (known_is (are_known o t) (own_pair_slot book ask told (home ask.origin)) query e))
stands_by book ask told o t (suc (suc (suc place))) query e = at_place place (omega arith) (place_by book ask told (are_known o t) book.spots place query e)

-- what stands at a number may stand there
pub slot_stands : (book : Book) (ask : TripAsk) (told : List Entry) (number : ℕ) (query : Query) → get_or (slots book ask told) number None ≡ Some query → MayStandAt book ask number query
unfolding slots
slot_stands book ask told number query e = stands_by book ask told (place_state book (checks_in told) ask.origin) (place_state book (checks_in told) ask.target) number query e

-- ---- a query stands at one number

check_reach : (region stop code place : Text) (start : ℕ) (query : Query) → query ≡ Check region stop → query ≡ Reach code place start → ⊥
check_reach region stop code place start query e f = let both : Check region stop ≡ Reach code place start = sym e ∙ f in cc

same_check : (region stop code place : Text) (query : Query) → query ≡ Check region stop → query ≡ Check code place → stop ≡ place
same_check region stop code place query e f = let both : Check region stop ≡ Check code place = sym e ∙ f in cc

same_reach : (region stop code place : Text) (start moment : ℕ) (query : Query) → query ≡ Reach region stop start → query ≡ Reach code place moment → (region ≡ code) × (stop ≡ place)
same_reach region stop code place start moment query e f = let both : Reach region stop start ≡ Reach code place moment = sym e ∙ f in (cc, cc)

module _ (book : Book) (ask : TripAsk) (well : IsWellBook book) (differ : ask.origin ≢ ask.target) where
  no_place_own : (place : ℕ) (query : Query) → IsOwnReach ask query → IsPlaceReach book place query → ⊥
  no_place_own place query own at =
      let stops : ask.origin ≡ at.0.stop = (same_reach own.0 ask.origin at.0.region at.0.stop own.1 at.1 query own.3 at.3).1 in
      let none : home at.0.stop ≡ None = no_home at.0.stop (well.exchange at.0 (slot_among book.spots place at.0 at.2)) in
      absurd (none-some own.0 (sym none ∙ (ap home (sym stops) ∙ own.2)))
    where
      slot_among : (spots : List Spot) (k : ℕ) (spot : Spot) → slice_get spots k ≡ Some spot → Among spot spots
      slot_among [] k spot e = absurd (none-some spot e)
      slot_among (s ∷ spots) zero spot e = inl (sym (same_Some s spot e))
      slot_among (s ∷ spots) (suc k) spot e = inr (slot_among spots k spot e)

  one_place_of : (p q : ℕ) (query : Query) → IsPlaceReach book p query → IsPlaceReach book q query → p ≡ q
  one_place_of p q query a b =
      let both : (a.0.region ≡ b.0.region) × (a.0.stop ≡ b.0.stop) = same_reach a.0.region a.0.stop b.0.region b.0.stop a.1 b.1 query a.3 b.3 in
      one_place book p q a.0.stop a.0.region well
      (record { spot = a.0; at = a.2; stop_is = refl; region_is = refl })
      (record { spot = b.0; at = b.2; stop_is = sym both.1; region_is = sym both.0 })

  pub stands_once : (m n : ℕ) (query : Query) → MayStandAt book ask m query → MayStandAt book ask n query → m ≡ n
  stands_once m n query (at_origin e a) (at_origin f b) = e ∙ sym f
  stands_once m n query (at_origin e a) (at_target f b) = absurd (differ (same_check a.0 ask.origin b.0 ask.target query a.2 b.2))
  stands_once m n query (at_origin e a) (at_own f b) = absurd (check_reach a.0 ask.origin b.0 ask.origin b.1 query a.2 b.3)
  stands_once m n query (at_origin e a) (at_place q f b) = absurd (check_reach a.0 ask.origin b.0.region b.0.stop b.1 query a.2 b.3)
  stands_once m n query (at_target e a) (at_origin f b) = absurd (differ (sym (same_check a.0 ask.target b.0 ask.origin query a.2 b.2)))
  stands_once m n query (at_target e a) (at_target f b) = e ∙ sym f
  stands_once m n query (at_target e a) (at_own f b) = absurd (check_reach a.0 ask.target b.0 ask.origin b.1 query a.2 b.3)
  stands_once m n query (at_target e a) (at_place q f b) = absurd (check_reach a.0 ask.target b.0.region b.0.stop b.1 query a.2 b.3)
  stands_once m n query (at_own e a) (at_origin f b) = absurd (check_reach b.0 ask.origin a.0 ask.origin a.1 query b.2 a.3)
  stands_once m n query (at_own e a) (at_target f b) = absurd (check_reach b.0 ask.target a.0 ask.origin a.1 query b.2 a.3)
  stands_once m n query (at_own e a) (at_own f b) = e ∙ sym f
  stands_once m n query (at_own e a) (at_place q f b) = absurd (no_place_own q query a b)
  stands_once m n query (at_place p e a) (at_origin f b) = absurd (check_reach b.0 ask.origin a.0.region a.0.stop a.1 query b.2 a.3)
  stands_once m n query (at_place p e a) (at_target f b) = absurd (check_reach b.0 ask.target a.0.region a.0.stop a.1 query b.2 a.3)
  stands_once m n query (at_place p e a) (at_own f b) = absurd (no_place_own p query b a)
  stands_once m n query (at_place p e a) (at_place q f b) = e ∙ (ap (λ (k : ℕ). k + 3) (one_place_of p q query a b) ∙ sym f)

-- ---- a wanted query stands at its number

pub record SlotOf (xs : List (Option Query)) (query : Query) : Type 0 where
  pub number : ℕ
  pub within : number < length xs
  pub is : get_or xs number None ≡ Some query

slot_of : (xs : List (Option Query)) (query : Query) → Among query (somes xs) → SlotOf xs query
slot_of [] query h = absurd h
slot_of (None ∷ xs) query h =
    let it : SlotOf xs query = slot_of xs query h in
    record { number = suc it.number; within = omega (arith, it.within); is = it.is }
slot_of (Some q ∷ xs) query (inl e) = record { number = zero; within = omega arith; is = ap Some (sym e) }
slot_of (Some q ∷ xs) query (inr h) =
    let it : SlotOf xs query = slot_of xs query h in
    record { number = suc it.number; within = omega (arith, it.within); is = it.is }

pub wanted_slot : (book : Book) (ask : TripAsk) (told : List Entry) (query : Query) → IsWellBook book → IsTrue (is_stop_ref ask.origin) → Among query (wanted book ask told) → SlotOf (slots book ask told) query
wanted_slot book ask told query well ref h = slot_of (slots book ask told) query (subst (Among query) (sym (slots_wanted book ask told well ref)) h)

-- a wanted query that may stand at a number stands there
pub wanted_stands : (book : Book) (ask : TripAsk) (told : List Entry) (number : ℕ) (query : Query) → IsWellBook book → IsTrue (is_stop_ref ask.origin) → ask.origin ≢ ask.target
    → MayStandAt book ask number query → Among query (wanted book ask told) → get_or (slots book ask told) number None ≡ Some query
wanted_stands book ask told number query well ref differ may h =
    let it : SlotOf (slots book ask told) query = wanted_slot book ask told query well ref h in
    subst (λ (n : ℕ). get_or (slots book ask told) n None ≡ Some query) (stands_once book ask well differ it.number number query (slot_stands book ask told it.number query it.is) may) it.is
