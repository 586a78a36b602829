-- Why there is no plan.
use Rattle.std.proofs.Common.{◌≡◌, ℕ, ◌+◌, ◌<◌, cond, List, Some, length, get_or, inl, inr, sym, ◌∙◌, ap, subst, arith}
use Rattle.std.specs.Prelude.{slice_get}
use Rattle.std.specs.Map.{lookup}
use Rattle.std.specs.Str.{bytes_eq}
use Rattle.std.proofs.lemmas.Bool.{cases_Bool}
use Rattle.std.proofs.lemmas.List.{length-map}
use Rattle.std.proofs.lemmas.Option.{none-some, same_Some, slice_get-get_or, slice_get_within}
use Rattle.std.proofs.lemmas.Slice.Eq.{bytes_eq-Decides}
use Rattle.indexmap.specs.IndexMap.{IndexMap, IsEmpty, get, Updates}
use Rattle.ojp_values.specs.Texts.{Text}
use Rattle.ojp_calendars.specs.declared.day_box.DayBox.{DayBox}
use Rattle.ojp_feed_labels.specs.Doubles.{AreDoubled}
use Rattle.ojp_feed_rows.specs.declared.feed.Feed.{Feed}
use Rattle.ojp_feed_trips.specs.declared.fates.Fate.{Fate}
use Rattle.ojp_feed_trips.specs.declared.weighing.Pattern.{Pattern}
use Rattle.ojp_feed_plans.specs.Days.{AreBoxesIn}
use Rattle.ojp_feed_plans.specs.Journeys.{AreAllRuns, calls_from, runs_from}
use Rattle.ojp_feed_plans.specs.Labels.{AreLabelled, stop_id, stop_ids, trip_ids}
use Rattle.ojp_feed_plans.specs.Plans.{AreWeighed}
use Rattle.ojp_feed_plans.specs.Refusals.{AreAlike, AreIdsRefused, AreJourneysRefused, AreLabelsRefused, ArePlacesRefused, AreTwoStops, AreTwoTrips, IsPast, IsPlanRefused, trip_number}
use Rattle.ojp_feed_plans.specs.Served.{served_stops}
use Rattle.ojp_feed_plans.specs.declared.plans.PlannedJourney.{PlannedJourney}
use Rattle.ojp_feed_plans.specs.declared.refusals.PlanRefused.{PlanRefused}
use Rattle.ojp_feed_plans.specs.declared.refusals.PlanRefused.TheVariants.{DoubledStops, DoubledTrips, TooManyJourneys, TooManyCalls, NoMemory}

pub refused_past : (feed : Feed) (boxes : List (List DayBox)) (patterns : List Pattern) (refused : PlanRefused) → IsPast (length (runs_from feed boxes 0 patterns)) (calls_from feed boxes 0 patterns) refused → AreJourneysRefused feed boxes patterns refused
refused_past feed boxes patterns (DoubledTrips first second) why = absurd why
refused_past feed boxes patterns (DoubledStops first second) why = absurd why
refused_past feed boxes patterns TooManyJourneys why = why
refused_past feed boxes patterns TooManyCalls why = why
refused_past feed boxes patterns NoMemory why = tt

pub refused_ids : (feed : Feed) (boxes : List (List DayBox)) (patterns : List Pattern) (refused : PlanRefused) → AreIdsRefused feed patterns refused → AreJourneysRefused feed boxes patterns refused
refused_ids feed boxes patterns (DoubledTrips first second) why = inl why
refused_ids feed boxes patterns (DoubledStops first second) why = absurd why
refused_ids feed boxes patterns TooManyJourneys why = absurd why
refused_ids feed boxes patterns TooManyCalls why = absurd why
refused_ids feed boxes patterns NoMemory why = tt

pub refused_alike : (feed : Feed) (boxes : List (List DayBox)) (patterns : List Pattern) (journeys : List PlannedJourney) (refused : PlanRefused) → AreAllRuns feed boxes patterns journeys → AreLabelled feed boxes patterns journeys → AreLabelsRefused patterns journeys refused
    → AreJourneysRefused feed boxes patterns refused
refused_alike feed boxes patterns journeys (DoubledTrips first second) all labelled why = inr (record { journeys = journeys; all = all; labelled = labelled; alike = why })
refused_alike feed boxes patterns journeys (DoubledStops first second) all labelled why = absurd why
refused_alike feed boxes patterns journeys TooManyJourneys all labelled why = absurd why
refused_alike feed boxes patterns journeys TooManyCalls all labelled why = absurd why
refused_alike feed boxes patterns journeys NoMemory all labelled why = tt

pub refused_written : (feed : Feed) (places : List ℕ) (fates : List Fate) (patterns : List Pattern) (boxes : List (List DayBox)) (refused : PlanRefused) → AreWeighed feed places fates patterns → AreBoxesIn feed boxes
    → AreJourneysRefused feed boxes patterns refused → IsPlanRefused feed refused
refused_written feed places fates patterns boxes (DoubledTrips first second) weighed boxed why = record { places = places; fates = fates; patterns = patterns; boxes = boxes; weighed = weighed; boxed = boxed; why = why }
refused_written feed places fates patterns boxes (DoubledStops first second) weighed boxed why = absurd why
refused_written feed places fates patterns boxes TooManyJourneys weighed boxed why = record { places = places; fates = fates; patterns = patterns; boxes = boxes; weighed = weighed; boxed = boxed; why = why }
refused_written feed places fates patterns boxes TooManyCalls weighed boxed why = record { places = places; fates = fates; patterns = patterns; boxes = boxes; weighed = weighed; boxed = boxed; why = why }
refused_written feed places fates patterns boxes NoMemory weighed boxed why = tt

pub refused_places : (feed : Feed) (places : List ℕ) (fates : List Fate) (patterns : List Pattern) (refused : PlanRefused) → AreWeighed feed places fates patterns → ArePlacesRefused feed patterns refused → IsPlanRefused feed refused
refused_places feed places fates patterns (DoubledTrips first second) weighed why = absurd why
refused_places feed places fates patterns (DoubledStops first second) weighed why = record { places = places; fates = fates; patterns = patterns; weighed = weighed; two = why }
refused_places feed places fates patterns TooManyJourneys weighed why = absurd why
refused_places feed places fates patterns TooManyCalls weighed why = absurd why
refused_places feed places fates patterns NoMemory weighed why = tt

-- ---- stops and trips of one label

-- a number that is read at a place stands there
number_read : (numbers : List ℕ) (i number : ℕ) → i < length numbers → number ≡ get_or numbers i i → slice_get numbers i ≡ Some number
number_read numbers i number h is = slice_get-get_or numbers i i h ∙ ap Some (sym is)

-- two of the stops that the patterns serve have one label
pub two_stops : (feed : Feed) (patterns : List Pattern) (numbers : List ℕ) (ids : List Text) (i j first second : ℕ) → numbers ≡ served_stops feed patterns → ids ≡ stop_ids feed numbers → AreDoubled 32 ids i j → first ≡ get_or numbers i i
    → second ≡ get_or numbers j j → AreTwoStops feed patterns first second
unfolding stop_ids
two_stops feed patterns numbers ids i j first second served is doubled one two =
    let h : j < length numbers =
    omega (arith, slice_get_within ids j doubled.second_id doubled.second_at, ap length is, length-map numbers (λ (number : ℕ). stop_id (slice_get feed.stops.items number))) in
    record {
      one = i;
      other = j;
      doubled = subst (λ (all : List ℕ). AreDoubled 32 (stop_ids feed all) i j) served (subst (λ (all : List Text). AreDoubled 32 all i j) is doubled);
      first_is = subst (λ (all : List ℕ). slice_get all i ≡ Some first) served (number_read numbers i first (omega (arith, doubled.order, h)) one);
      second_is = subst (λ (all : List ℕ). slice_get all j ≡ Some second) served (number_read numbers j second h two);
    }

-- the trips of two of the patterns have one label
pub two_trips : (feed : Feed) (patterns : List Pattern) (ids : List Text) (i j first second : ℕ) → ids ≡ trip_ids feed patterns → AreDoubled 21 ids i j → first ≡ trip_number patterns i → second ≡ trip_number patterns j → AreTwoTrips feed patterns first second
two_trips feed patterns ids i j first second is doubled one two = record {
  one = i;
  other = j;
  doubled = subst (λ (all : List Text). AreDoubled 21 all i j) is doubled;
  first_is = sym one;
  second_is = sym two;
}

-- ---- labels that were seen

-- a journey below the count has the label, and is of the pattern
pub record IsSeen (journeys : List PlannedJourney) (count : ℕ) (text : Text) (pattern : ℕ) : Type 0 where
  pub number : ℕ
  pub journey : PlannedJourney
  pub below : number < count
  pub at : slice_get journeys number ≡ Some journey
  pub label : journey.label ≡ text
  pub of : journey.pattern ≡ pattern

module _ {S : Type 0} where
  -- each label that was seen is that of a journey below the count
  abbrev pub AreSeen : List PlannedJourney → ℕ → IndexMap Text ℕ S → Type 0
  AreSeen journeys count seen = (text : Text) (pattern : ℕ) → get bytes_eq seen text ≡ Some pattern → IsSeen journeys count text pattern

  pub seen_none : (journeys : List PlannedJourney) (seen : IndexMap Text ℕ S) → IsEmpty seen → AreSeen journeys 0 seen
  seen_none journeys seen empty text pattern at = absurd (none-some pattern (subst (λ (es : List (Text × ℕ)). lookup (bytes_eq text) es ≡ Some pattern) empty at))

  pub seen_more : (journeys : List PlannedJourney) (old new : IndexMap Text ℕ S) (count : ℕ) (journey : PlannedJourney) → AreSeen journeys count old → slice_get journeys count ≡ Some journey
      → Updates bytes_eq old new journey.label (Some journey.pattern) → AreSeen journeys (count + 1) new
  seen_more journeys old new count journey before here updates text pattern at =
      let told : cond (bytes_eq journey.label text) (Some journey.pattern) (get bytes_eq old text) ≡ Some pattern = sym (updates.0 text) ∙ at in
      elim (cases_Bool (bytes_eq journey.label text)) [
        | inl e ↦ record {
          number = count;
          journey = journey;
          below = omega arith;
          at = here;
          label = (bytes_eq-Decides journey.label text).0 e;
          of = same_Some journey.pattern pattern (sym (ap (λ b. cond b (Some journey.pattern) (get bytes_eq old text)) e) ∙ told);
        }
        | inr e ↦
            let one = before text pattern (sym (ap (λ b. cond b (Some journey.pattern) (get bytes_eq old text)) e) ∙ told) in
            let below : one.number < count + 1 = omega (arith, one.below) in
            record { number = one.number; journey = one.journey; below = below; at = one.at; label = one.label; of = one.of }
      ]

-- the label of a journey was seen
pub alike_seen : (patterns : List Pattern) (journeys : List PlannedJourney) (count pattern first second : ℕ) (journey : PlannedJourney) → IsSeen journeys count journey.label pattern → slice_get journeys count ≡ Some journey
    → first ≡ trip_number patterns pattern → second ≡ trip_number patterns journey.pattern → AreAlike patterns journeys first second
alike_seen patterns journeys count pattern first second journey seen at one two = record {
  one = seen.number;
  other = count;
  order = seen.below;
  one_journey = seen.journey;
  other_journey = journey;
  one_at = seen.at;
  other_at = at;
  label = seen.label;
  first_is = ap (trip_number patterns) seen.of ∙ sym one;
  second_is = sym two;
}
