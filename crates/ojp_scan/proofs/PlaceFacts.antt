-- The numbers of stops among the places of a table.
use Rattle.std.proofs.Common.{◌≡◌, ℕ, ◌+◌, ◌<◌, ◌≤◌, List, [], ◌∷◌, true, false, cond, not, nat_lt, Option, Some, None, length, get_or, sym, ap, subst, refl, inl, inr, arith, slice_get, ◌∙◌, true≢false, find, option_map}
use Rattle.std.specs.Prelude.{bytes_eq, position, MatchOption}
use Rattle.std.specs.List.{position_or_len}
use Rattle.std.proofs.lemmas.Bool.{cases_Bool, cases_lt, lt-ltb}
use Rattle.std.proofs.lemmas.List.Folds.{find_at}
use Rattle.std.proofs.lemmas.List.Quantifiers.{position-Some}
use Rattle.std.proofs.lemmas.Option.{none-some, same_Some, cond_some, slice_get-get_or, slice_get_within}
use Rattle.std.proofs.lemmas.Slice.Eq.{bytes_eq-Decides}
use Rattle.indexmap.specs.IndexMap.{IndexMap, get, Updates}
use Rattle.ojp_values.specs.Lists.{Among}
use Rattle.ojp_values.specs.Texts.{Text, same}
use Rattle.ojp_timetable.specs.Tables.{Timetable, Journey, Place, place_of, change_of, name_of}
use Rattle.ojp_timetable.specs.declared.calls.Call.{Call}
use Rattle.ojp_timetable.specs.Runs.{IsWell}
use Rattle.ojp_scan.specs.Networks.{place_number, HaveNumbers}
use Rattle.ojp_values.proofs.EachFacts.{read_once}
use Rattle.ojp_scan.proofs.TableFacts.{call-well}

bytes-same : (x y : Text) → x ≡ y → bytes_eq x y ≡ true
bytes-same x y e = (bytes_eq-Decides x y).1 e

-- the stop is one of the places
pub record IsPlaceOf (table : Timetable) (stop : Text) : Type 0 where
  pub place : Place
  pub is_place : Among place table.places
  pub at : place.stop ≡ stop

-- the place of a number
pub record IsPlaceAt (table : Timetable) (stop : Text) (k : ℕ) : Type 0 where
  pub place : Place
  pub at : slice_get table.places k ≡ Some place
  pub stop_is : place.stop ≡ stop

no-place : Place
no-place = record { stop = []; change = 0; name = [] }

-- the place of that number has the stop
pub number-read : (table : Timetable) (stop : Text) (k : ℕ) → place_number table stop ≡ Some k → IsPlaceAt table stop k
number-read table stop k e =
    let h = position-Some (λ (place : Place). bytes_eq stop place.stop) table.places k no-place e in
    record {
      place = get_or table.places k no-place;
      at = slice_get-get_or table.places k no-place h.0;
      stop_is = sym ((bytes_eq-Decides stop (get_or table.places k no-place).stop).0 h.1);
    }

pub number-within : (table : Timetable) (stop : Text) (k : ℕ) → place_number table stop ≡ Some k → k < length table.places
number-within table stop k e = let r = number-read table stop k e in slice_get_within table.places k r.place r.at

-- one number is that of one stop
pub one-stop : (table : Timetable) (s r : Text) (k : ℕ) → place_number table s ≡ Some k → place_number table r ≡ Some k → s ≡ r
one-stop table s r k a b =
    let x = number-read table s k a in
    let y = number-read table r k b in
    sym x.stop_is ∙ (ap (λ (p : Place). p.stop) (read_once table.places k k x.place y.place refl x.at y.at) ∙ y.stop_is)

-- the stop of a place has a number
pub number-known : (table : Timetable) (stop : Text) → IsPlaceOf table stop → (k : ℕ) × (place_number table stop ≡ Some k)
number-known table stop known = go table.places known.is_place
  where
    below : (places : List Place) → Among known.place places → position_or_len (λ (place : Place). bytes_eq stop place.stop) places < length places
    below [] h = absurd h
    below (place ∷ places) h =
        elim (cases_Bool (bytes_eq stop place.stop)) [
          | inl found ↦ let here = ap (λ b. cond (not b) (1 + position_or_len (λ (p : Place). bytes_eq stop p.stop) places) 0) found in omega arith
          | inr other ↦
              elim h [
                | inl e ↦ absurd (true≢false (sym (bytes-same stop place.stop (sym known.at ∙ ap (λ (p : Place). p.stop) e)) ∙ other))
                | inr later ↦ let r = below places later in let here = ap (λ b. cond (not b) (1 + position_or_len (λ (p : Place). bytes_eq stop p.stop) places) 0) other in omega arith
              ]
        ]

    go : (places : List Place) → Among known.place places → (k : ℕ) × (position (λ (place : Place). bytes_eq stop place.stop) places ≡ Some k)
    go places h =
        let lt = below places h in
        (position_or_len (λ (place : Place). bytes_eq stop place.stop) places, ap (λ b. cond b (Some (position_or_len (λ (place : Place). bytes_eq stop place.stop) places)) None) (lt-ltb _ _ lt))

-- what is known of the stop of a place
module _ (table : Timetable) (stop : Text) (k : ℕ) (number : place_number table stop ≡ Some k) (place : Place) (at : slice_get table.places k ≡ Some place) where
  found-place : place_of table stop ≡ Some place
  unfolding place_of same
  found-place =
      let tells = cond_some (nat_lt (position_or_len (λ (p : Place). bytes_eq stop p.stop) table.places) (length table.places)) (position_or_len (λ (p : Place). bytes_eq stop p.stop) table.places) k number in
      find_at (λ (p : Place). bytes_eq stop p.stop) table.places ∙ (ap (λ n. slice_get table.places n) tells.1 ∙ at)

  pub change-is : change_of table stop ≡ Some place.change
  change-is = ap (λ (o : Option Place). option_map (λ (p : Place). p.change) o) found-place

  pub name-is : name_of table stop ≡ Some place.name
  name-is = ap (λ (o : Option Place). option_map (λ (p : Place). p.name) o) found-place

-- a change takes a second at least
pub change-low : (table : Timetable) → IsWell table → (stop : Text) (change : ℕ) → change_of table stop ≡ Some change → 1 ≤ change
unfolding place_of
change-low table well stop change e = go table.places (λ place h. (well.changes place h).0) e
  where
    go : (places : List Place) → ((place : Place) → Among place places → 1 ≤ place.change) → option_map (λ (place : Place). place.change) (find (λ place. same stop place.stop) places) ≡ Some change → 1 ≤ change
    go [] low e = absurd (none-some change e)
    go (place ∷ places) low e =
        elim (cases_Bool (same stop place.stop)) [
          | inl found ↦
              let here = sym (ap (λ b. option_map (λ (p : Place). p.change) (cond b (Some place) (find (λ p. same stop p.stop) places))) found) ∙ e in
              subst (λ n. 1 ≤ n) (same_Some place.change change here) (low place (inl refl))
          | inr other ↦
              go places (λ p h. low p (inr h)) (sym (ap (λ b. option_map (λ (p : Place). p.change) (cond b (Some place) (find (λ p. same stop p.stop) places))) other) ∙ e)
        ]

-- the stop of a call is that of a place
pub call-place : (table : Timetable) → IsWell table → (j p : ℕ) (journey : Journey) (call : Call) → slice_get table.journeys j ≡ Some journey → slice_get journey.calls p ≡ Some call → IsPlaceOf table call.stop
call-place table well j p journey call at call_at =
    let w = call-well table well j p journey call at call_at in
    record { place = w.place; is_place = w.is_place; at = w.at }

-- so it has a name
pub name-known : (table : Timetable) → IsWell table → (j p : ℕ) (journey : Journey) (call : Call) → slice_get table.journeys j ≡ Some journey → slice_get journey.calls p ≡ Some call → (name : Text) × (name_of table call.stop ≡ Some name)
name-known table well j p journey call at call_at =
    let n = number-known table call.stop (call-place table well j p journey call at call_at) in
    let r = number-read table call.stop n.0 n.1 in
    (r.place.name, name-is table call.stop n.0 n.1 r.place r.at)

-- the numbers of the first places, and of one more
module _ {S : Type 0} (table : Timetable) where
  pub numbers-none : (numbers : IndexMap Text ℕ S) → get bytes_eq numbers ≡ (λ _. None) → HaveNumbers numbers table 0
  numbers-none numbers none stop =
      subst (λ (f : Text → Option ℕ). MatchOption (f stop) ((k : ℕ) (place : Place) → k < 0 → slice_get table.places k ≡ Some place → place.stop ≡ stop → ⊥) (λ number. place_number table stop ≡ Some number)) (sym none) (λ k place h. absurd (omega arith))

  pub numbers-more : (old new : IndexMap Text ℕ S) (count number : ℕ) (place : Place) → HaveNumbers old table count → slice_get table.places count ≡ Some place → place_number table place.stop ≡ Some number
      → Updates bytes_eq old new place.stop (Some number) → HaveNumbers new table (count + 1)
  numbers-more old new count number place have at is updates stop =
      elim (cases_Bool (bytes_eq place.stop stop)) [
        | inl same_stop ↦
            let e : place.stop ≡ stop = (bytes_eq-Decides place.stop stop).0 same_stop in
            let here : get bytes_eq new stop ≡ Some number = updates.0 stop ∙ ap (λ b. cond b (Some number) (get bytes_eq old stop)) same_stop in
            subst (λ o. MatchOption o ((k : ℕ) (p : Place) → k < count + 1 → slice_get table.places k ≡ Some p → p.stop ≡ stop → ⊥) (λ n. place_number table stop ≡ Some n)) (sym here)
            (subst (λ s. place_number table s ≡ Some number) e is)
        | inr other ↦
            let here : get bytes_eq new stop ≡ get bytes_eq old stop = updates.2 stop other in
            subst (λ o. MatchOption o ((k : ℕ) (p : Place) → k < count + 1 → slice_get table.places k ≡ Some p → p.stop ≡ stop → ⊥) (λ n. place_number table stop ≡ Some n)) (sym here)
            (kept (get bytes_eq old stop) (have stop) other)
      ]
    where
      kept : (o : Option ℕ) → MatchOption o ((k : ℕ) (p : Place) → k < count → slice_get table.places k ≡ Some p → p.stop ≡ stop → ⊥) (λ n. place_number table stop ≡ Some n) → bytes_eq place.stop stop ≡ false
          → MatchOption o ((k : ℕ) (p : Place) → k < count + 1 → slice_get table.places k ≡ Some p → p.stop ≡ stop → ⊥) (λ n. place_number table stop ≡ Some n)
      kept (Some n) h other = h
      kept None h other = λ k p lt p_at e.
          elim (cases_lt k count) [
            | inl before ↦ h k p before p_at e
            | inr from ↦
                let here : k ≡ count = omega arith in
                let same_place = read_once table.places k count p place here p_at at in
                true≢false (sym (bytes-same place.stop stop (ap (λ (x : Place). x.stop) (sym same_place) ∙ e)) ∙ other)
          ]

  pub numbers-next : (old new : IndexMap Text ℕ S) (count number : ℕ) (stop : Text) → HaveNumbers old table count → IsPlaceAt table stop count → place_number table stop ≡ Some number
      → Updates bytes_eq old new stop (Some number) → HaveNumbers new table (count + 1)
  numbers-next old new count number stop have place is updates =
      numbers-more old new count number place.place have place.at (subst (λ s. place_number table s ≡ Some number) (sym place.stop_is) is) (subst (λ s. Updates bytes_eq old new s (Some number)) (sym place.stop_is) updates)

  -- with all places each stop has its number
  pub numbers-all : (numbers : IndexMap Text ℕ S) → HaveNumbers numbers table (length table.places) → (stop : Text) → get bytes_eq numbers stop ≡ place_number table stop
  numbers-all numbers have stop = go (get bytes_eq numbers stop) (place_number table stop) (have stop) refl
    where
      go : (o r : Option ℕ) → MatchOption o ((k : ℕ) (place : Place) → k < length table.places → slice_get table.places k ≡ Some place → place.stop ≡ stop → ⊥) (λ number. place_number table stop ≡ Some number)
          → place_number table stop ≡ r → o ≡ r
      go (Some n) r h e = sym h ∙ e
      go None None h e = refl
      go None (Some k) h e = let r = number-read table stop k e in absurd (h k r.place (slice_get_within table.places k r.place r.at) r.at r.stop_is)
