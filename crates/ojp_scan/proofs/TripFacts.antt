-- Answers to trip asks: their faults, and the trips made of the legs of a journey.
use Rattle.std.proofs.Common.{◌≡◌, ℕ, ◌≤◌, ◌||◌, Bool, true, false, not, cond, List, [], ◌∷◌, Option, Some, None, option_map, refl, sym, ap, subst, ◌∙◌, arith}
use Rattle.ojp_values.specs.Lists.{Earliest}
use Rattle.ojp_values.specs.Texts.{Text, same}
use Rattle.ojp_values.specs.declared.replies.Fault.{Fault}
use Rattle.ojp_values.specs.declared.replies.Fault.TheVariants.{SameStop, StopUnknown}
use Rattle.ojp_values.specs.declared.trips.Leg.{Leg}
use Rattle.ojp_values.specs.declared.trips.Trip.{Trip}
use Rattle.ojp_timetable.specs.Tables.{Timetable, has}
use Rattle.ojp_timetable.specs.Runs.{IsWell}
use Rattle.ojp_timetable.specs.Journeys.{alighted, reached, Regional, ArrivesWithin}
use Rattle.ojp_timetable.specs.Answers.{Agrees, IsEarliestTrip, targets_fault}
use Rattle.ojp_timetable.proofs.RideFacts.{leg_forward, follow_forward}
use Rattle.ojp_timetable.proofs.LegCounts.{legs_counted}
use Rattle.ojp_scan.specs.Trips.{IsWithinDay}

-- the fault by its three tests
fault-by : Text → Text → Bool → Bool → Bool → Option Fault
fault-by o d is_same has_o has_d =
    cond (is_same || false) (Some (SameStop o)) (option_map StopUnknown (cond (not has_o) (Some o) (cond (not has_d) (Some d) None)))

module _ (table : Timetable) (o d : Text) where
  by-tests : (a b c : Bool) → same o d ≡ a → has table o ≡ b → has table d ≡ c → targets_fault table o (d ∷ []) ≡ fault-by o d a b c
  unfolding fault-by
  by-tests a b c ea eb ec =
      ap (λ x. fault-by o d x (has table o) (has table d)) ea ∙ (ap (λ x. fault-by o d a x (has table d)) eb ∙ ap (λ x. fault-by o d a b x) ec)

  pub fault-same : same o d ≡ true → targets_fault table o (d ∷ []) ≡ Some (SameStop o)
  unfolding fault-by
  fault-same e = by-tests true (has table o) (has table d) e refl refl

  pub fault-origin : same o d ≡ false → has table o ≡ false → targets_fault table o (d ∷ []) ≡ Some (StopUnknown o)
  unfolding fault-by
  fault-origin e h = by-tests false false (has table d) e h refl

  pub fault-target : same o d ≡ false → has table o ≡ true → has table d ≡ false → targets_fault table o (d ∷ []) ≡ Some (StopUnknown d)
  unfolding fault-by
  fault-target e h k = by-tests false true false e h k

  pub fault-none : same o d ≡ false → has table o ≡ true → has table d ≡ true → targets_fault table o (d ∷ []) ≡ None
  unfolding fault-by
  fault-none e h k = by-tests false true true e h k

-- the legs of a journey are within a day
pub within-day : (table : Timetable) → IsWell table → (o : Text) (t : ℕ) (d : Text) (a : ℕ) (legs : List Leg) → Regional table o t d a legs → IsWithinDay legs a
within-day table well o t d a [] journey = absurd journey.2
within-day table well o t d a (leg ∷ legs) journey =
    let later : leg.arrives ≤ (reached (alighted leg) legs).moment = follow_forward table (alighted leg) legs well journey.2.3 in
    let at : (reached (alighted leg) legs).moment ≡ a = journey.2.4.1 in
    let ride = leg_forward table leg well journey.2.0 in
    let leaves = journey.2.2 in
    let ends = journey.1 in
    record {
      first = leg;
      rest = legs;
      is = refl;
      count = (legs_counted table o t d a (leg ∷ legs) well journey).1;
      forward = omega arith;
      within = omega arith;
    }

-- two earliest moments are one
pub one-earliest : (P : ℕ → Type 0) (a b : ℕ) → Earliest P a → Earliest P b → a ≡ b
one-earliest P a b ea eb = let x = ea.1 b eb.0 in let y = eb.1 a ea.0 in omega arith

-- the trip of an earliest journey's legs
pub earliest-is : (table : Timetable) → IsWell table → (o : Text) (t : ℕ) (d : Text) (end : ℕ) (legs : List Leg) (trip : Trip) → Earliest (ArrivesWithin table o t d) end
    → ((m : ℕ) × Earliest (ArrivesWithin table o t d) m × Regional table o t d m legs) → trip.legs ≡ legs → trip.end ≡ end
    → ((first : Leg) (rest : List Leg) → legs ≡ first ∷ rest → Agrees trip first rest) → IsEarliestTrip table o t d trip
earliest-is table well o t d end legs trip earliest journey same_legs same_end totals =
    let same_moment = one-earliest (ArrivesWithin table o t d) journey.0 end journey.1 earliest in
    let here : Regional table o t d end legs = subst (λ m. Regional table o t d m legs) same_moment journey.2 in
    let day = within-day table well o t d end legs here in
    record {
      journey = subst (λ m. Regional table o t d m trip.legs) (sym same_end) (subst (λ ls. Regional table o t d end ls) (sym same_legs) here);
      earliest = λ a ls other. subst (λ m. m ≤ a) (sym same_end) (earliest.1 a (ls, other));
      first = day.first;
      rest = day.rest;
      totals = totals day.first day.rest day.is;
    }
