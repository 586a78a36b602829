-- The journeys of patterns, counted and listed.
use Rattle.std.proofs.Common.{◌≡◌, ℕ, zero, suc, ◌+◌, ◌-◌, ◌*◌, ◌<◌, ◌≤◌, List, [], ◌∷◌, ◌++◌, length, get_or, map, take, Result, Ok, Err, inl, inr, refl, sym, ◌∙◌, ap, subst, append-nil, append_assoc, arith}
use Rattle.std.proofs.Math.Nat.{suc-mul}
use Rattle.std.proofs.lemmas.Bool.{cases_lt}
use Rattle.std.proofs.lemmas.List.{length-append, length-map, length-take, length-take-le, map_push, take_all, take_more}
use Rattle.std.proofs.lemmas.List.Concat.{flat_map-append}
use Rattle.std.specs.Result.{IfErr, IsErrAnd}
use Rattle.ojp_calendars.specs.declared.day_box.DayBox.{DayBox}
use Rattle.ojp_feed_rows.specs.declared.feed.Feed.{Feed}
use Rattle.ojp_feed_trips.specs.declared.weighing.Pattern.{Pattern}
use Rattle.ojp_feed_plans.specs.Journeys.{AreAllRuns, Run, calls_from, run_of, runs_at, runs_from, runs_of_start, runs_of_starts}
use Rattle.ojp_feed_plans.specs.Refusals.{IsPast}
use Rattle.ojp_feed_plans.specs.declared.plans.PlannedJourney.{PlannedJourney}
use Rattle.ojp_feed_plans.specs.declared.refusals.PlanRefused.{PlanRefused}
use Rattle.ojp_feed_plans.specs.declared.refusals.PlanRefused.TheVariants.{DoubledStops, DoubledTrips, TooManyJourneys, TooManyCalls, NoMemory}

-- ---- numbers

sum_times : (a b c : ℕ) → (a + b) * c ≡ a * c + b * c
sum_times zero b c = let front : 0 + b ≡ b = omega arith in ap (λ (n : ℕ). n * c) front ∙ omega arith
sum_times (suc a) b c =
    let front : suc a + b ≡ suc (a + b) = omega arith in
    let whole : (suc a + b) * c ≡ (a + b) * c + c = ap (λ (n : ℕ). n * c) front ∙ suc-mul (a + b) c in
    omega (arith, whole, sum_times a b c, suc-mul a c)

times_more : (a b c : ℕ) → a ≤ b → a * c ≤ b * c
times_more a b c h =
    let whole : a + (b - a) ≡ b = omega arith in
    let parts : b * c ≡ a * c + (b - a) * c = sym (ap (λ (n : ℕ). n * c) whole) ∙ sum_times a (b - a) c in
    omega (arith, parts)

-- one item more has so many calls more
pub calls_more : (old mid new calls i : ℕ) → mid ≡ old + i * calls → new ≡ mid + calls → new ≡ old + (i + 1) * calls
calls_more old mid new calls i before step = omega (arith, before, step, sum_times i 1 calls)

-- a refusal that is passed on is the one that came
pub passed_up : {T E : Type 0} (result : Result T E) (refused : E) (P : E → Type 0) → IsErrAnd result (λ given. given ≡ refused) → P refused → IfErr result P
passed_up (Ok value) refused P is has = tt
passed_up (Err given) refused P is has = subst P (sym is) has

-- what is past the most at fewer is so at more
pub past_more : (a b c d : ℕ) (refused : PlanRefused) → a ≤ b → c ≤ d → IsPast a c refused → IsPast b d refused
past_more a b c d TooManyJourneys h k past = omega (arith, h, past)
past_more a b c d TooManyCalls h k past = omega (arith, k, past)
past_more a b c d NoMemory h k past = tt
past_more a b c d (DoubledStops first second) h k past = absurd past
past_more a b c d (DoubledTrips first second) h k past = absurd past

-- ---- the boxes of a departure

pub days_more : (number start i : ℕ) (days : List DayBox) (box : DayBox) (old mid new : List Run) → i < length days → box ≡ get_or days i box → mid ≡ old ++ runs_of_start number (take i days) start
    → new ≡ mid ++ record { pattern = number; start = start; days = box } ∷ [] → new ≡ old ++ runs_of_start number (take (i + 1) days) start
days_more number start i days box old mid new h is before step =
    let run : DayBox → Run = λ (b : DayBox). record { pattern = number; start = start; days = b } in
    let more : runs_of_start number (take (i + 1) days) start ≡ runs_of_start number (take i days) start ++ run box ∷ [] =
    ap (map run) (take_more days i box h ∙ ap (λ (b : DayBox). take i days ++ b ∷ []) (sym is)) ∙ map_push run (take i days) box in
    step ∙ (ap (λ (xs : List Run). xs ++ run box ∷ []) before ∙ (append_assoc old (runs_of_start number (take i days) start) (run box ∷ []) ∙ ap (λ (xs : List Run). old ++ xs) (sym more)))

pub days_all : (number start i : ℕ) (days : List DayBox) (old new : List Run) → length days ≤ i → new ≡ old ++ runs_of_start number (take i days) start → new ≡ old ++ runs_of_start number days start
days_all number start i days old new h is = is ∙ ap (λ (bs : List DayBox). old ++ runs_of_start number bs start) (take_all i days h)

-- so many are there before the box at a place
pub days_long : (number start i : ℕ) (days : List DayBox) (old mid : List PlannedJourney) → i ≤ length days → map run_of mid ≡ map run_of old ++ runs_of_start number (take i days) start → length mid ≡ length old + i
days_long number start i days old mid h is =
    let run : DayBox → Run = λ (b : DayBox). record { pattern = number; start = start; days = b } in
    sym (length-map mid run_of) ∙ (ap length is ∙ (length-append (map run_of old) (runs_of_start number (take i days) start)
    ∙ omega (arith, length-map old run_of, length-map (take i days) run, length-take-le i days h)))

pub day_past : (number start i calls before now : ℕ) (days : List DayBox) (old mid : List PlannedJourney) (refused : PlanRefused) → i < length days
    → map run_of mid ≡ map run_of old ++ runs_of_start number (take i days) start → now ≡ before + i * calls → IsPast (length mid + 1) (now + calls) refused
    → IsPast (length old + length days) (before + length days * calls) refused
day_past number start i calls before now days old mid refused h is counted past =
    let long = days_long number start i days old mid (omega arith) is in
    let next = calls_more before now (now + calls) calls i counted refl in
    past_more (length mid + 1) (length old + length days) (now + calls) (before + length days * calls) refused (omega (arith, long)) (omega (arith, next, times_more (i + 1) (length days) calls (omega arith))) past

-- ---- the departures of a trip

runs_count : (number : ℕ) (days : List DayBox) (starts : List ℕ) → length (runs_of_starts number days starts) ≡ length starts * length days
runs_count number days [] = omega arith
runs_count number days (start ∷ starts) =
    let run : DayBox → Run = λ (b : DayBox). record { pattern = number; start = start; days = b } in
    length-append (runs_of_start number days start) (runs_of_starts number days starts)
    ∙ omega (arith, length-map days run, runs_count number days starts, suc-mul (length starts) (length days))

runs_none : (number : ℕ) (starts : List ℕ) → runs_of_starts number [] starts ≡ []
runs_none number [] = refl
runs_none number (start ∷ starts) = runs_none number starts

pub starts_more : (number named : ℕ) (days : List DayBox) (starts : List ℕ) (i d : ℕ) (old mid new : List Run) → named ≡ number → i < length starts → mid ≡ old ++ runs_of_starts number days (take i starts)
    → new ≡ mid ++ runs_of_start named days (get_or starts i d) → new ≡ old ++ runs_of_starts number days (take (i + 1) starts)
starts_more number named days starts i d old mid new same h before step =
    let start = get_or starts i d in
    let front = runs_of_starts number days (take i starts) in
    let more : runs_of_starts number days (take (i + 1) starts) ≡ front ++ runs_of_start number days start =
    ap (runs_of_starts number days) (take_more starts i d h)
    ∙ (flat_map-append (runs_of_start number days) (take i starts) (start ∷ []) ∙ ap (λ (xs : List Run). front ++ xs) (append-nil (runs_of_start number days start))) in
    step ∙ (ap (λ (n : ℕ). mid ++ runs_of_start n days start) same ∙ (ap (λ (xs : List Run). xs ++ runs_of_start number days start) before
    ∙ (append_assoc old front (runs_of_start number days start) ∙ ap (λ (xs : List Run). old ++ xs) (sym more))))

pub starts_calls : (number i calls before now next : ℕ) (days : List DayBox) (starts : List ℕ) → i < length starts → now ≡ before + length (runs_of_starts number days (take i starts)) * calls → next ≡ now + length days * calls
    → next ≡ before + length (runs_of_starts number days (take (i + 1) starts)) * calls
starts_calls number i calls before now next days starts h counted step =
    let one = runs_count number days (take i starts) ∙ ap (λ (n : ℕ). n * length days) (length-take-le i starts (omega arith)) in
    let two = runs_count number days (take (i + 1) starts) ∙ ap (λ (n : ℕ). n * length days) (length-take-le (i + 1) starts (omega arith)) in
    let whole : length (runs_of_starts number days (take (i + 1) starts)) ≡ length (runs_of_starts number days (take i starts)) + length days = omega (arith, one, two, sum_times i 1 (length days)) in
    let times = ap (λ (n : ℕ). n * calls) whole ∙ sum_times (length (runs_of_starts number days (take i starts))) (length days) calls in
    omega (arith, counted, step, times)

some_or_none : (number i : ℕ) (days : List DayBox) (starts all : List ℕ) → length (runs_of_starts number days (take i starts)) ≤ 20000 → length (runs_of_starts number days (take i starts)) ≡ length starts * length days → length starts ≡ 20001
    → runs_of_starts number days (take i starts) ≡ runs_of_starts number days all
some_or_none number i [] starts all few count full = runs_none number (take i starts) ∙ sym (runs_none number all)
some_or_none number i (box ∷ days) starts all few count full =
    absurd (omega (arith, few, count, full, ap (λ (n : ℕ). n * length (box ∷ days)) full))

-- the first 20,001 departures are all where their journeys are no more than 20,000
pub starts_all : (number i : ℕ) (days : List DayBox) (starts all : List ℕ) (old new : List Run) → starts ≡ take 20001 all → length starts ≤ i → length new ≤ 20000 → new ≡ old ++ runs_of_starts number days (take i starts)
    → runs_of_starts number days (take i starts) ≡ runs_of_starts number days all
starts_all number i days starts all old new is behind few made =
    let whole : take i starts ≡ starts = take_all i starts behind in
    let long : length new ≡ length old + length (runs_of_starts number days (take i starts)) = ap length made ∙ length-append old (runs_of_starts number days (take i starts)) in
    let count : length (runs_of_starts number days (take i starts)) ≡ length starts * length days = runs_count number days (take i starts) ∙ ap (λ (xs : List ℕ). length xs * length days) whole in
    elim (cases_lt 20001 (length all)) [
      | inr short ↦ ap (runs_of_starts number days) (whole ∙ (is ∙ take_all 20001 all short))
      | inl more ↦
          let full : length starts ≡ 20001 = ap length is ∙ length-take-le 20001 all (omega arith) in
          some_or_none number i days starts all (omega (arith, long, few)) count full
    ]

pub start_past : (number i calls before now : ℕ) (days : List DayBox) (starts all : List ℕ) (old mid : List PlannedJourney) (refused : PlanRefused) → starts ≡ take 20001 all → i < length starts
    → map run_of mid ≡ map run_of old ++ runs_of_starts number days (take i starts) → now ≡ before + length (runs_of_starts number days (take i starts)) * calls
    → IsPast (length mid + length days) (now + length days * calls) refused → IsPast (length old + length (runs_of_starts number days all)) (before + length (runs_of_starts number days all) * calls) refused
start_past number i calls before now days starts all old mid refused is h made counted past =
    let front = length (runs_of_starts number days (take i starts)) in
    let one : front ≡ i * length days = runs_count number days (take i starts) ∙ ap (λ (n : ℕ). n * length days) (length-take-le i starts (omega arith)) in
    let long : length mid ≡ length old + front =
    sym (length-map mid run_of) ∙ (ap length made ∙ (length-append (map run_of old) (runs_of_starts number days (take i starts)) ∙ ap (λ (n : ℕ). n + front) (length-map old run_of))) in
    let most : length starts ≤ length all = omega (arith, ap length is ∙ length-take 20001 all) in
    let more : front + length days ≤ length (runs_of_starts number days all) =
    omega (arith, one, runs_count number days all, sum_times i 1 (length days), times_more (i + 1) (length all) (length days) (omega arith)) in
    let calls_are = sum_times front (length days) calls in
    past_more (length mid + length days) (length old + length (runs_of_starts number days all)) (now + length days * calls) (before + length (runs_of_starts number days all) * calls) refused (omega (arith, long, more))
    (omega (arith, counted, calls_are, times_more (front + length days) (length (runs_of_starts number days all)) calls more)) past

-- ---- patterns

end_at : (n : ℕ) → n ≡ n + 0
end_at n = omega arith

later_at : (n m : ℕ) → n + 1 + m ≡ n + suc m
later_at n m = omega arith

from_both : (feed : Feed) (boxes : List (List DayBox)) (n : ℕ) (one : List Pattern) (pattern : Pattern) → runs_from feed boxes n (one ++ pattern ∷ []) ≡ runs_from feed boxes n one ++ runs_at feed boxes (n + length one) pattern
from_both feed boxes n [] pattern = append-nil (runs_at feed boxes n pattern) ∙ ap (λ (m : ℕ). runs_at feed boxes m pattern) (end_at n)
from_both feed boxes n (p ∷ one) pattern =
    ap (λ (xs : List Run). runs_at feed boxes n p ++ xs) (from_both feed boxes (n + 1) one pattern)
    ∙ (sym (append_assoc (runs_at feed boxes n p) (runs_from feed boxes (n + 1) one) (runs_at feed boxes (n + 1 + length one) pattern))
    ∙ ap (λ (m : ℕ). (runs_at feed boxes n p ++ runs_from feed boxes (n + 1) one) ++ runs_at feed boxes m pattern) (later_at n (length one)))

calls_both : (feed : Feed) (boxes : List (List DayBox)) (n : ℕ) (one : List Pattern) (pattern : Pattern)
    → calls_from feed boxes n (one ++ pattern ∷ []) ≡ calls_from feed boxes n one + length (runs_at feed boxes (n + length one) pattern) * length pattern.halts.items
calls_both feed boxes n [] pattern = let at = ap (λ (m : ℕ). length (runs_at feed boxes m pattern) * length pattern.halts.items) (end_at n) in omega (arith, at)
calls_both feed boxes n (p ∷ one) pattern =
    let at = ap (λ (m : ℕ). length (runs_at feed boxes m pattern) * length pattern.halts.items) (later_at n (length one)) in
    omega (arith, at, calls_both feed boxes (n + 1) one pattern)

front_of : (patterns : List Pattern) (i : ℕ) (pattern : Pattern) → i < length patterns → pattern ≡ get_or patterns i pattern → take (i + 1) patterns ≡ take i patterns ++ pattern ∷ []
front_of patterns i pattern h is = take_more patterns i pattern h ∙ ap (λ (p : Pattern). take i patterns ++ p ∷ []) (sym is)

at_place : (patterns : List Pattern) (i : ℕ) → i < length patterns → 0 + length (take i patterns) ≡ i
at_place patterns i h = omega (arith, length-take-le i patterns (omega arith))

pub patterns_more : (feed : Feed) (boxes : List (List DayBox)) (patterns : List Pattern) (i : ℕ) (pattern : Pattern) (mid new : List Run) → i < length patterns → pattern ≡ get_or patterns i pattern
    → mid ≡ runs_from feed boxes 0 (take i patterns) → new ≡ mid ++ runs_at feed boxes i pattern → new ≡ runs_from feed boxes 0 (take (i + 1) patterns)
patterns_more feed boxes patterns i pattern mid new h is before step =
    step ∙ (ap (λ (xs : List Run). xs ++ runs_at feed boxes i pattern) before
    ∙ (sym (ap (λ (m : ℕ). runs_from feed boxes 0 (take i patterns) ++ runs_at feed boxes m pattern) (at_place patterns i h))
    ∙ (sym (from_both feed boxes 0 (take i patterns) pattern) ∙ sym (ap (runs_from feed boxes 0) (front_of patterns i pattern h is)))))

pub patterns_calls : (feed : Feed) (boxes : List (List DayBox)) (patterns : List Pattern) (i : ℕ) (pattern : Pattern) (now next : ℕ) → i < length patterns → pattern ≡ get_or patterns i pattern
    → now ≡ calls_from feed boxes 0 (take i patterns) → next ≡ now + length (runs_at feed boxes i pattern) * length pattern.halts.items → next ≡ calls_from feed boxes 0 (take (i + 1) patterns)
patterns_calls feed boxes patterns i pattern now next h is before step =
    let at = ap (λ (m : ℕ). length (runs_at feed boxes m pattern) * length pattern.halts.items) (at_place patterns i h) in
    let more = ap (calls_from feed boxes 0) (front_of patterns i pattern h is) ∙ calls_both feed boxes 0 (take i patterns) pattern in
    omega (arith, at, more, before, step)

-- those of the first patterns are no more than all
runs_front : (feed : Feed) (boxes : List (List DayBox)) (n i : ℕ) (patterns : List Pattern) → length (runs_from feed boxes n (take i patterns)) ≤ length (runs_from feed boxes n patterns)
runs_front feed boxes n zero patterns = omega arith
runs_front feed boxes n (suc i) [] = omega arith
runs_front feed boxes n (suc i) (p ∷ patterns) =
    omega (arith, length-append (runs_at feed boxes n p) (runs_from feed boxes (n + 1) (take i patterns)), length-append (runs_at feed boxes n p) (runs_from feed boxes (n + 1) patterns), runs_front feed boxes (n + 1) i patterns)

calls_front : (feed : Feed) (boxes : List (List DayBox)) (n i : ℕ) (patterns : List Pattern) → calls_from feed boxes n (take i patterns) ≤ calls_from feed boxes n patterns
calls_front feed boxes n zero patterns = omega arith
calls_front feed boxes n (suc i) [] = omega arith
calls_front feed boxes n (suc i) (p ∷ patterns) = omega (arith, calls_front feed boxes (n + 1) i patterns)

pub pattern_past : (feed : Feed) (boxes : List (List DayBox)) (patterns : List Pattern) (i : ℕ) (pattern : Pattern) (mid : List PlannedJourney) (now : ℕ) (refused : PlanRefused) → i < length patterns → pattern ≡ get_or patterns i pattern
    → map run_of mid ≡ runs_from feed boxes 0 (take i patterns) → now ≡ calls_from feed boxes 0 (take i patterns)
    → IsPast (length mid + length (runs_at feed boxes i pattern)) (now + length (runs_at feed boxes i pattern) * length pattern.halts.items) refused
    → IsPast (length (runs_from feed boxes 0 patterns)) (calls_from feed boxes 0 patterns) refused
pattern_past feed boxes patterns i pattern mid now refused h is made counted past =
    let runs = patterns_more feed boxes patterns i pattern (map run_of mid) (map run_of mid ++ runs_at feed boxes i pattern) h is made refl in
    let long : length mid + length (runs_at feed boxes i pattern) ≡ length (runs_from feed boxes 0 (take (i + 1) patterns)) =
    ap (λ (n : ℕ). n + length (runs_at feed boxes i pattern)) (sym (length-map mid run_of)) ∙ (sym (length-append (map run_of mid) (runs_at feed boxes i pattern)) ∙ ap length runs) in
    let calls = patterns_calls feed boxes patterns i pattern now (now + length (runs_at feed boxes i pattern) * length pattern.halts.items) h is counted refl in
    past_more (length mid + length (runs_at feed boxes i pattern)) (length (runs_from feed boxes 0 patterns)) (now + length (runs_at feed boxes i pattern) * length pattern.halts.items) (calls_from feed boxes 0 patterns) refused
    (omega (arith, long, runs_front feed boxes 0 (i + 1) patterns)) (omega (arith, calls, calls_front feed boxes 0 (i + 1) patterns)) past

-- all of them
pub all_runs : (feed : Feed) (boxes : List (List DayBox)) (patterns : List Pattern) (i : ℕ) (journeys : List PlannedJourney) → length patterns ≤ i → map run_of journeys ≡ runs_from feed boxes 0 (take i patterns) → AreAllRuns feed boxes patterns journeys
unfolding AreAllRuns
all_runs feed boxes patterns i journeys behind is = is ∙ ap (runs_from feed boxes 0) (take_all i patterns behind)
