-- What is read of a map of stops by their numbers, and of a row of calls as they are kept.
use Rattle.std.proofs.Common.{◌≡◌, ℕ, zero, suc, ◌-◌, ◌<◌, Bool, true, false, List, [], ◌∷◌, length, map, take, drop, get_or, refl, sym, ◌∙◌, ap, arith, inl, inr, slice_get, slice_range, true≢false}
use Rattle.std.specs.Prelude.{Option, Some, None, bytes_eq, option_map, position}
use Rattle.std.specs.List.{IsDistinct}
use Rattle.std.specs.Map.{keys_of}
use Rattle.std.proofs.lemmas.Bool.{cases_Bool}
use Rattle.std.proofs.lemmas.List.{drop-map, length-map, take-map}
use Rattle.std.proofs.lemmas.List.Sums.{position_or_len_is}
use Rattle.std.proofs.lemmas.Map.Keys.{apart_from_distinct}
use Rattle.std.proofs.lemmas.Option.{get_or_from_slice_get, none-some, same_Some, slice_get_within}
use Rattle.std.proofs.lemmas.Slice.Eq.{bytes_eq-Decides}
use Rattle.ojp_values.specs.Texts.{Text}
use Rattle.ojp_timetable.specs.Tables.{Call, Journey, Place}
use Rattle.ojp_timetable.specs.Kept.{AreAtPlaces, AreInRow, HasNumber, call_kept, journeys_of, place_kept}
use Rattle.ojp_timetable.specs.declared.kept.Head.{Head}
use Rattle.ojp_timetable.specs.declared.kept.KeptCall.{KeptCall}
use Rattle.ojp_timetable.specs.declared.kept.PlaceFacts.{PlaceFacts}
use Rattle.ojp_timetable.proofs.CallRowFacts.{journey_at, kept_at}
use Rattle.ojp_timetable.proofs.MapFacts.{position_kept}
use Rattle.ojp_timetable.proofs.StopFacts.{first_is}

-- ---- numbers of stops

key_at : (entries : List (Text × PlaceFacts)) (i : ℕ) (entry : Text × PlaceFacts) → slice_get entries i ≡ Some entry → slice_get (keys_of entries) i ≡ Some entry.0
key_at [] i entry h = absurd (none-some entry h)
key_at (first ∷ entries) zero entry h = ap (λ (e : Text × PlaceFacts). Some e.0) (same_Some first entry h)
key_at (first ∷ entries) (suc i) entry h = key_at entries i entry h

-- the first of distinct stops that is the one at a number is at that number
module _ (equal : Text → Text → Bool) (agree : (x y : Text) → equal x y ≡ bytes_eq x y) where
  own_place : (stops : List Text) (i : ℕ) (stop : Text) → IsDistinct equal stops → slice_get stops i ≡ Some stop → position (bytes_eq stop) stops ≡ Some i
  own_place stops i stop distinct at =
      let within : i < length stops = slice_get_within stops i stop at in
      let here : get_or stops i [] ≡ stop = get_or_from_slice_get stops i stop [] at in
      first_is _ i (length stops) (position_or_len_is (bytes_eq stop) stops i [] (omega (arith, within)) (before within here) (λ _. (bytes_eq-Decides stop (get_or stops i [])).1 (sym here))) within
    where
      before : i < length stops → get_or stops i [] ≡ stop → (k : ℕ) → k < i → bytes_eq stop (get_or stops k []) ≡ false
      before within here k lt =
          elim (cases_Bool (bytes_eq stop (get_or stops k []))) as (λ _. bytes_eq stop (get_or stops k []) ≡ false) [
            | inl found ↦
                let same : stop ≡ get_or stops k [] = (bytes_eq-Decides stop (get_or stops k [])).0 found in
                let both : bytes_eq (get_or stops k []) (get_or stops i []) ≡ true = (bytes_eq-Decides (get_or stops k []) (get_or stops i [])).1 (sym same ∙ sym here) in
                let apart = apart_from_distinct equal stops k i [] distinct lt within in
                absurd (true≢false (sym both ∙ (sym (agree (get_or stops k []) (get_or stops i [])) ∙ apart)))
            | inr other ↦ other
          ]

  pub own_number : (entries : List (Text × PlaceFacts)) (i : ℕ) (entry : Text × PlaceFacts) → IsDistinct equal (keys_of entries) → slice_get entries i ≡ Some entry → HasNumber (map place_kept entries) entry.0 i
  own_number entries i entry distinct at =
      sym (position_kept (bytes_eq entry.0) (λ (place : Place). bytes_eq entry.0 place.stop) place_kept (λ _. refl) entries)
      ∙ own_place (keys_of entries) i entry.0 distinct (key_at entries i entry at)

-- ---- a part of the row of calls

at_take : (places : List Place) (n : ℕ) (kept : List KeptCall) → AreAtPlaces places kept → AreAtPlaces places (take n kept)
at_take places zero kept h = tt
at_take places (suc n) [] h = tt
at_take places (suc n) (call ∷ kept) h = (h.0, at_take places n kept h.1)

at_drop : (places : List Place) (n : ℕ) (kept : List KeptCall) → AreAtPlaces places kept → AreAtPlaces places (drop n kept)
at_drop places zero kept h = h
at_drop places (suc n) [] h = tt
at_drop places (suc n) (call ∷ kept) h = at_drop places n kept h.1

pub at_range : (places : List Place) (kept : List KeptCall) (from to : ℕ) → AreAtPlaces places kept → AreAtPlaces places (slice_range kept from to)
at_range places kept from to h = at_take places (to - from) (drop from kept) (at_drop places from kept h)

-- as many calls are kept as there are
pub count_kept : (places : List Place) (kept : List KeptCall) (calls : List Call) → map (call_kept places) kept ≡ calls → length kept ≡ length calls
count_kept places kept calls e = sym (length-map kept (call_kept places)) ∙ ap length e

pub range_kept : (places : List Place) (kept : List KeptCall) (calls : List Call) (from to : ℕ) → map (call_kept places) kept ≡ calls → map (call_kept places) (slice_range kept from to) ≡ slice_range calls from to
range_kept places kept calls from to e =
    sym (take-map (call_kept places) (to - from) (drop from kept))
    ∙ (ap (take (to - from)) (sym (drop-map (call_kept places) from kept)) ∙ ap (λ (all : List Call). slice_range all from to) e)

-- ---- entries of journeys that are read in part

-- the entry of which a part was read
pub first_read : (read : Option (Text × Head)) (first : ℕ) → Some first ≡ option_map (λ (entry : Text × Head). entry.1.first_call) read → (entry : Text × Head) × (read ≡ Some entry) × (entry.1.first_call ≡ first)
first_read None first e = absurd (none-some first (sym e))
first_read (Some entry) first e = (entry, refl, sym (same_Some first entry.1.first_call e))

pub none_read : (read : Option (Text × Head)) → option_map (λ (entry : Text × Head). entry.1.first_call) read ≡ None → read ≡ None
none_read None e = refl
none_read (Some entry) e = absurd (none-some entry.1.first_call (sym e))

-- the service of a journey is that of its entry
pub service_kept_at : (entries : List (Text × Head)) (calls : List Call) (i : ℕ) → AreInRow entries (length calls)
    → option_map (λ (entry : Text × Head). entry.1.service) (slice_get entries i) ≡ option_map (λ (journey : Journey). journey.service) (slice_get (journeys_of entries calls) i)
service_kept_at entries calls i h =
    of_entry (slice_get entries i) ∙ ap (option_map (λ (journey : Journey). journey.service)) (sym (journey_at entries calls i h))
  where
    of_entry : (read : Option (Text × Head)) → option_map (λ (entry : Text × Head). entry.1.service) read ≡ option_map (λ (journey : Journey). journey.service) (option_map (kept_at entries calls i) read)
    of_entry None = refl
    of_entry (Some entry) = refl
