-- A journey within a day has no more legs than the day has seconds, and one: each change takes a second at least.
use Rattle.std.proofs.Common.{◌≡◌, ℕ, ◌+◌, ◌≤◌, Bool, true, false, cond, List, [], ◌∷◌, Option, Some, None, find, option_map, length, refl, inl, inr, arith}
use Rattle.ojp_values.specs.Lists.{Among}
use Rattle.ojp_values.specs.Texts.{Text, same}
use Rattle.ojp_values.specs.declared.trips.Leg.{Leg}
use Rattle.ojp_timetable.specs.Tables.{Timetable, Place, place_of, change_of}
use Rattle.ojp_timetable.specs.Runs.{IsWell, day_long}
use Rattle.ojp_timetable.specs.Journeys.{Standing, alighted, reached, AllFollow, HasTime, Follows, Regional}
use Rattle.ojp_timetable.proofs.RideFacts.{leg_forward}

chosen : (b : Bool) (x place : Place) (rest : Option Place) (xs : List Place) → (rest ≡ Some place → Among place xs) → cond b (Some x) rest ≡ Some place → Among place (x ∷ xs)
chosen true x place rest xs later e = let is : place ≡ x = cc in inl is
chosen false x place rest xs later e = inr (later e)

found : (p : Place → Bool) (places : List Place) (place : Place) → find p places ≡ Some place → Among place places
found p [] place e = absurd (cc)
found p (x ∷ xs) place e = chosen (p x) x place (find p xs) xs (found p xs place) e

timed : (o : Option Place) (change : ℕ) → option_map (λ (place : Place). place.change) o ≡ Some change → (place : Place) × (o ≡ Some place) × (place.change ≡ change)
timed None change e = absurd (cc)
timed (Some place) change e = let is : place.change ≡ change = cc in (place, refl, is)

-- a change takes a second at least
pub change_takes_time : (table : Timetable) (stop : Text) (change : ℕ) → IsWell table → change_of table stop ≡ Some change → 1 ≤ change
unfolding place_of
change_takes_time table stop change well e =
    let at = timed (find (λ place. same stop place.stop) table.places) change e in
    let limits : (1 ≤ at.0.change) × (at.0.change ≤ 7200) = well.changes at.0 (found (λ place. same stop place.stop) table.places at.0 at.1) in
    omega (arith, limits.0, at.2)

counted : (table : Timetable) (at : Standing) (legs : List Leg) → IsWell table → AllFollow (Follows table) at legs → at.moment + length legs ≤ (reached at legs).moment
counted table at [] well follow = omega arith
counted table at (leg ∷ legs) well follow =
    let later : leg.arrives + length legs ≤ (reached (alighted leg) legs).moment = counted table (alighted leg) legs well follow.1 in
    let ride : leg.departs ≤ leg.arrives = leg_forward table leg well follow.0.0 in
    let time : HasTime table at leg = follow.0.2 in
    let takes : 1 ≤ time.0 = change_takes_time table at.stop time.0 well time.1 in
    omega (arith, time.2)

pub legs_counted : (table : Timetable) (o : Text) (t : ℕ) (d : Text) (a : ℕ) (legs : List Leg) → IsWell table → Regional table o t d a legs → (1 ≤ length legs) × (length legs ≤ 86401)
legs_counted table o t d a [] well journey = absurd journey.2
legs_counted table o t d a (leg ∷ legs) well journey =
    let later : leg.arrives + length legs ≤ (reached (alighted leg) legs).moment = counted table (alighted leg) legs well journey.2.3 in
    let ride : leg.departs ≤ leg.arrives = leg_forward table leg well journey.2.0 in
    let leaves : t ≤ leg.departs = journey.2.2 in
    let at : (reached (alighted leg) legs).moment ≡ a = journey.2.4.1 in
    let ends : a ≤ t + day_long = journey.1 in
    (omega arith, omega arith)
