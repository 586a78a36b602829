-- Journeys that run on days of their trips.
use Rattle.std.proofs.Common.{◌≡◌, ℕ, zero, suc, ◌<◌, ◌≤◌, ◌&&◌, Bool, true, cond, List, [], ◌∷◌, length, get_or, Option, Some, None, refl, sym, ◌∙◌, ap, subst, arith, inl, inr, count_by}
use Rattle.std.specs.Prelude.{slice_get, unwrap_or}
use Rattle.std.specs.List.{All, AllZip, Contains}
use Rattle.std.proofs.lemmas.Bool.{and_parts, cases_Bool, cond-false, cond-true}
use Rattle.std.proofs.lemmas.List.Sums.{get_or-le-sum_by}
use Rattle.std.proofs.lemmas.Option.{none-some, same_Some, slice_get-get_or}
use Rattle.ojp_calendars.specs.Days.{boxes_over, covers}
use Rattle.ojp_calendars.specs.declared.day_box.DayBox.{DayBox}
use Rattle.ojp_feed_rows.specs.declared.feed.Feed.{Feed}
use Rattle.ojp_feed_rows.specs.declared.services.Service.{Service}
use Rattle.ojp_feed_rows.specs.declared.settings.Window.{Window}
use Rattle.ojp_feed_rows.specs.declared.trips.Trip.{Trip}
use Rattle.ojp_feed_trips.specs.Starts.{IsStart}
use Rattle.ojp_feed_trips.specs.declared.weighing.Pattern.{Pattern}
use Rattle.ojp_feed_plans.specs.Days.{AreBoxes, AreBoxesIn, boxes_of_service, is_within, runs}
use Rattle.ojp_feed_plans.specs.Journeys.{IsJourneyOf, IsMade, IsMadeOf, IsOfPattern, IsOfStart, IsOfTrip, RunsOn}
use Rattle.ojp_feed_plans.specs.declared.plans.PlannedJourney.{PlannedJourney}

all_zip_at : {A B : Type 0} (R : A → B → Type 0) (xs : List A) (ys : List B) (k : ℕ) (y : B) → AllZip R xs ys → slice_get ys k ≡ Some y → (x : A) × (slice_get xs k ≡ Some x) × R x y
all_zip_at R [] [] k y all at = absurd (none-some y at)
all_zip_at R [] (z ∷ ys) k y all at = absurd all
all_zip_at R (x ∷ xs) [] k y all at = absurd all
all_zip_at R (x ∷ xs) (z ∷ ys) zero y all at = (x, refl, subst (λ w. R x w) (same_Some z y at) all.0)
all_zip_at R (x ∷ xs) (z ∷ ys) (suc k) y all at = all_zip_at R xs ys k y all.1 at

at_least_one : {X : Type 0} (p : X → Bool) (xs : List X) (x : X) (k : ℕ) → k < length xs → get_or xs k x ≡ x → p x ≡ true → 1 ≤ count_by p xs
at_least_one p xs x k h at holds =
    subst (λ (n : ℕ). n ≤ count_by p xs) (cond-true (p (get_or xs k x)) 1 0 (ap p at ∙ holds)) (get_or-le-sum_by (λ y. cond (p y) 1 0) xs k x h)

-- a day under one of the boxes is in the window, and the service runs on it
under_box : (service : Service) (window : Window) (boxes : List DayBox) (box : DayBox) (day : ℕ) → AreBoxes service window boxes → Contains boxes box → covers box day ≡ true
    → (is_within window day ≡ true) × (runs service day ≡ true)
unfolding AreBoxes boxes_over
under_box service window boxes box day are in_it under =
    let some : 1 ≤ boxes_over day boxes = at_least_one (λ (days : DayBox). covers days day) boxes box in_it.0 in_it.1 in_it.2 under in
    let count : boxes_over day boxes ≡ cond (is_within window day && runs service day) 1 0 = are day in
    elim (cases_Bool (is_within window day && runs service day)) [
      | inl both ↦ and_parts (is_within window day) (runs service day) both
      | inr neither ↦
          let none : cond (is_within window day && runs service day) 1 0 ≡ 0 = cond-false (is_within window day && runs service day) 1 0 neither in
          let nobody : boxes_over day boxes ≡ 0 = count ∙ none in
          absurd (omega arith)
    ]

-- a box of the service of that number
of_number : (feed : Feed) (all : List (List DayBox)) (trip : Trip) (number : ℕ) (box : DayBox) → trip.service ≡ Some number → AreBoxesIn feed all → (found : Option (List DayBox))
    → slice_get all number ≡ found → Contains (unwrap_or found []) box → (day : ℕ) → covers box day ≡ true → RunsOn feed trip day
of_number feed all trip number box named are None at in_it day under = absurd (omega (arith, in_it.1))
of_number feed all trip number box named are (Some boxes) at in_it day under =
    let found = all_zip_at (λ (service : Service) (boxes : List DayBox). AreBoxes service feed.window boxes) feed.services.items all number boxes are at in
    let both = under_box found.0 feed.window boxes box day found.2 in_it under in
    record { number = number; service = found.0; named = named; at = found.1; within = both.0; runs = both.1 }

-- a box of a trip's service
of_service : (feed : Feed) (all : List (List DayBox)) (trip : Trip) (service : Option ℕ) (box : DayBox) → trip.service ≡ service → AreBoxesIn feed all → Contains (boxes_of_service all service) box → (day : ℕ)
    → covers box day ≡ true → RunsOn feed trip day
of_service feed all trip None box named are in_it day under = absurd (omega (arith, in_it.1))
of_service feed all trip (Some number) box named are in_it day under = of_number feed all trip number box named are (slice_get all number) refl in_it day under

pub journey_is : (feed : Feed) (patterns : List Pattern) (all : List (List DayBox)) → AreBoxesIn feed all → (journey : PlannedJourney) → IsMadeOf feed patterns all journey → IsJourneyOf feed patterns journey
journey_is feed patterns all are journey made = record {
  pattern = made.pattern;
  trip = made.trip;
  pattern_at = made.pattern_at;
  trip_at = made.trip_at;
  start = made.departs;
  days = λ day under. of_service feed all made.trip made.trip.service journey.days refl are made.on day under;
}

-- what stands at a place of one list stands there in the same list
pub found_at : {X : Type 0} (xs ys : List X) (i : ℕ) (x : X) → xs ≡ ys → i < length xs → ((d : X) → x ≡ get_or xs i d) → slice_get ys i ≡ Some x
found_at {X} xs ys i x same h is = subst (λ (zs : List X). slice_get zs i ≡ Some x) same (slice_get-get_or xs i x h ∙ ap Some (sym (is x)))

-- a journey on the days of the box at a place
pub on_day : (number start place : ℕ) (days : List DayBox) (box : DayBox) (journey : PlannedJourney) → place < length days → box ≡ get_or days place box → IsMade number start box journey → IsOfStart number start days journey
on_day number start place days box journey h is made = record {
  of = made.of;
  departs = made.departs;
  on = (place, h, subst (λ (d : DayBox). get_or days place d ≡ d) (sym made.on) (sym is));
}

-- and for a departure of the trip
pub for_start : (trip : Trip) (starts : List ℕ) (i d number named : ℕ) (days : List DayBox) (journey : PlannedJourney) → All (IsStart trip) starts → i < length starts → named ≡ number
    → IsOfStart named (get_or starts i d) days journey → IsOfTrip trip number days journey
for_start trip starts i d number named days journey all h same of = record {
  of = of.of ∙ same;
  departs = subst (λ (s : ℕ). IsStart trip s) (sym of.departs) (all i d h);
  on = of.on;
}

-- and for one of the patterns
pub of_pattern : (feed : Feed) (patterns : List Pattern) (all : List (List DayBox)) (pattern : Pattern) (number : ℕ) (journey : PlannedJourney) → AreBoxesIn feed all → slice_get patterns number ≡ Some pattern
    → IsOfPattern feed all number pattern journey → IsJourneyOf feed patterns journey
of_pattern feed patterns all pattern number journey are pattern_at of =
    journey_is feed patterns all are journey (record {
      pattern = pattern;
      trip = of.trip;
      pattern_at = ap (slice_get patterns) of.is.of ∙ pattern_at;
      trip_at = of.at;
      departs = of.is.departs;
      on = of.is.on;
    })
