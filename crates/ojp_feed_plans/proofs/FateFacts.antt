-- Trips by what becomes of them.
use Rattle.std.proofs.Common.{◌≡◌, ℕ, ◌+◌, ◌<◌, ◌≤◌, true, false, cond, List, [], ◌∷◌, ◌++◌, length, get_or, take, refl, sym, ◌∙◌, ap, subst, zero-add, arith, Some}
use Rattle.std.proofs.lemmas.List.{length-take-le, length_push, map-append}
use Rattle.std.proofs.lemmas.List.Sums.{fold_more}
use Rattle.std.proofs.lemmas.List.Elements.{All-append, All-cons, All-nil}
use Rattle.std.specs.List.{All, fold}
use Rattle.std.specs.Prelude.{slice_get}
use Rattle.ojp_feed_rows.specs.declared.feed.Feed.{Feed}
use Rattle.ojp_feed_rows.specs.declared.trips.Trip.{Trip}
use Rattle.ojp_feed_trips.specs.Fates.{IsWeighed}
use Rattle.ojp_feed_trips.specs.declared.fates.Fate.{Fate}
use Rattle.ojp_feed_trips.specs.declared.fates.Fate.TheVariants.{Written, UnknownRoute, UnknownService, UnknownStop, NoDay, DoubledSequence, NoTimeAtEnd, FallingTimes, PastEnd, TooFewCalls}
use Rattle.ojp_feed_trips.specs.declared.weighing.Pattern.{Pattern}
use Rattle.ojp_feed_trips.specs.declared.weighing.Weighed.{Weighed}
use Rattle.ojp_feed_trips.specs.declared.weighing.Weighed.TheVariants.{Written as AsPattern, Left}
use Rattle.ojp_feed_plans.specs.Journeys.{IsPatternOf}
use Rattle.ojp_feed_plans.specs.Plans.{AreFirstWeighed, fate_of, is_written, patterns_of, trips_of, written_from}
use Rattle.ojp_feed_plans.specs.Tallies.{no_trips, tally_of, total, with_fate}
use Rattle.ojp_feed_plans.specs.declared.counts.Tally.{Tally}

-- a trip more is one trip more
pub total_with : (tally : Tally) (fate : Fate) → total (with_fate tally fate) ≡ total tally + 1
total_with tally Written = omega arith
total_with tally UnknownRoute = omega arith
total_with tally UnknownService = omega arith
total_with tally UnknownStop = omega arith
total_with tally NoDay = omega arith
total_with tally DoubledSequence = omega arith
total_with tally NoTimeAtEnd = omega arith
total_with tally FallingTimes = omega arith
total_with tally PastEnd = omega arith
total_with tally TooFewCalls = omega arith

total_from : (tally : Tally) (fates : List Fate) → total (fold with_fate tally fates) ≡ total tally + length fates
total_from tally [] = omega arith
total_from tally (fate ∷ fates) = total_from (with_fate tally fate) fates ∙ (ap (λ (n : ℕ). n + length fates) (total_with tally fate) ∙ omega arith)

-- all trips are counted
pub total_of : (fates : List Fate) → total (tally_of fates) ≡ length fates
unfolding tally_of
total_of fates = total_from no_trips fates ∙ zero-add (length fates)

-- the written ones of two lists
written_both : (n : ℕ) (one two : List Fate) → written_from n (one ++ two) ≡ written_from n one ++ written_from (n + length one) two
written_both n [] two = ap (λ (m : ℕ). written_from m two) (omega arith)
written_both n (fate ∷ one) two =
    let more : written_from (n + 1) (one ++ two) ≡ written_from (n + 1) one ++ written_from (n + (length one + 1)) two = written_both (n + 1) one two ∙ ap (λ (m : ℕ). written_from (n + 1) one ++ written_from m two) (omega arith) in
    let at : n + length (fate ∷ one) ≡ n + (length one + 1) = omega arith in
    elim (is_written fate) as (λ b. cond b (n ∷ written_from (n + 1) (one ++ two)) (written_from (n + 1) (one ++ two)) ≡ cond b (n ∷ written_from (n + 1) one) (written_from (n + 1) one) ++ written_from (n + length (fate ∷ one)) two) [
      | true ↦ ap (λ (xs : List ℕ). n ∷ xs) more ∙ ap (λ (m : ℕ). n ∷ (written_from (n + 1) one ++ written_from m two)) (sym at)
      | false ↦ more ∙ ap (λ (m : ℕ). written_from (n + 1) one ++ written_from m two) (sym at)
    ]

-- one trip more is weighed
weighed_by : (feed : Feed) (places : List ℕ) (trip : Trip) (n : ℕ) (weighed : Weighed) → slice_get feed.trips.items n ≡ Some trip → IsWeighed trip n places weighed
    → (trips_of (patterns_of weighed) ≡ written_from n (fate_of weighed ∷ [])) × All (IsPatternOf feed places) (patterns_of weighed)
weighed_by feed places trip n (AsPattern pattern) at is =
    let same : slice_get feed.trips.items pattern.trip ≡ Some trip = ap (slice_get feed.trips.items) is.trip_is ∙ at in
    let moved : IsPatternOf feed places pattern = record { trip = trip; at = same; is = record { trip_is = refl; begin_is = is.begin_is; stem = is.stem; two = is.two } } in
    (ap (λ (m : ℕ). m ∷ []) is.trip_is, All-cons (IsPatternOf feed places) pattern [] moved (All-nil (IsPatternOf feed places)))
weighed_by feed places trip n (Left Written) at is = absurd is
weighed_by feed places trip n (Left UnknownRoute) at is = (refl, All-nil (IsPatternOf feed places))
weighed_by feed places trip n (Left UnknownService) at is = (refl, All-nil (IsPatternOf feed places))
weighed_by feed places trip n (Left UnknownStop) at is = (refl, All-nil (IsPatternOf feed places))
weighed_by feed places trip n (Left NoDay) at is = (refl, All-nil (IsPatternOf feed places))
weighed_by feed places trip n (Left DoubledSequence) at is = (refl, All-nil (IsPatternOf feed places))
weighed_by feed places trip n (Left NoTimeAtEnd) at is = (refl, All-nil (IsPatternOf feed places))
weighed_by feed places trip n (Left FallingTimes) at is = (refl, All-nil (IsPatternOf feed places))
weighed_by feed places trip n (Left PastEnd) at is = (refl, All-nil (IsPatternOf feed places))
weighed_by feed places trip n (Left TooFewCalls) at is = (refl, All-nil (IsPatternOf feed places))

pub weighed_more : (feed : Feed) (places : List ℕ) (trip : Trip) (n : ℕ) (weighed : Weighed) (fates new : List Fate) (patterns more : List Pattern) → AreFirstWeighed feed places fates patterns n
    → slice_get feed.trips.items n ≡ Some trip → IsWeighed trip n places weighed → new ≡ fates ++ fate_of weighed ∷ [] → more ≡ patterns ++ patterns_of weighed
    → AreFirstWeighed feed places new more (n + 1)
weighed_more feed places trip n weighed fates new patterns more before at is step grown =
    let one = weighed_by feed places trip n weighed at is in
    let here : 0 + length fates ≡ n = omega (arith, before.each) in
    record {
      each = ap length step ∙ (length_push fates (fate_of weighed) ∙ ap (λ (m : ℕ). m + 1) before.each);
      written = ap trips_of grown
          ∙ (map-append (λ (pattern : Pattern). pattern.trip) patterns (patterns_of weighed)
          ∙ (ap (λ (xs : List ℕ). xs ++ trips_of (patterns_of weighed)) before.written
          ∙ (ap (λ (xs : List ℕ). written_from 0 fates ++ xs) one.0
          ∙ (sym (ap (λ (m : ℕ). written_from 0 fates ++ written_from m (fate_of weighed ∷ [])) here)
          ∙ (sym (written_both 0 fates (fate_of weighed ∷ [])) ∙ sym (ap (written_from 0) step))))));
      stem = subst (λ (xs : List Pattern). All (IsPatternOf feed places) xs) (sym grown) (All-append (IsPatternOf feed places) patterns (patterns_of weighed) before.stem one.1);
    }

pub weighed_none : (feed : Feed) (places : List ℕ) → AreFirstWeighed feed places [] [] 0
weighed_none feed places = record { each = refl; written = refl; stem = All-nil (IsPatternOf feed places) }

-- ---- counts

pub tally_none : no_trips ≡ tally_of []
unfolding tally_of
tally_none = refl

pub tally_more : (fates : List Fate) (i : ℕ) (d : Fate) (tally new : Tally) → i < length fates → tally ≡ tally_of (take i fates) → new ≡ with_fate tally (get_or fates i d)
    → new ≡ tally_of (take (i + 1) fates)
unfolding tally_of
tally_more fates i d tally new h before step = step ∙ (ap (λ (t : Tally). with_fate t (get_or fates i d)) before ∙ sym (fold_more with_fate no_trips fates i d h))

-- so many trips are counted
pub tally_total : (fates : List Fate) (i : ℕ) (tally : Tally) → i ≤ length fates → tally ≡ tally_of (take i fates) → total tally ≡ i
tally_total fates i tally h is = ap total is ∙ (total_of (take i fates) ∙ length-take-le i fates h)
